-- What the score of two is.
use Rattle.std.proofs.Common.{◌≡◌, ◌+◌, ◌∷◌, ◌++◌, refl}
use Rattle.algebra.specs.declared.numbers.Numbers.{Numbers}
use Rattle.algebra.specs.Kind.{KindModel}
use Rattle.algebra.specs.Score.{Score, nodes, primitives, score_length}
use Rattle.algebra.specs.Layout.{preorder, seen}
use Rattle.nodes.specs.declared.join.Join.{Join}
use Rattle.nodes.specs.declared.join.Join.TheVariants.{Sequence, Parallel}
use Rattle.nodes.specs.Joins.{joined, node_of, length_of}

pub joined_preorder : (j : Join) (a b : Score) → preorder (joined j a b) ≡ node_of j ∷ (preorder a ++ preorder b)
joined_preorder Sequence a b = refl
joined_preorder Parallel a b = refl

pub joined_nodes : (j : Join) (a b : Score) → nodes (joined j a b) ≡ 1 + nodes a + nodes b
joined_nodes Sequence a b = refl
joined_nodes Parallel a b = refl

pub joined_primitives : (j : Join) (a b : Score) → primitives (joined j a b) ≡ primitives a + primitives b
joined_primitives Sequence a b = refl
joined_primitives Parallel a b = refl

pub joined_length : (K : KindModel) (j : Join) (a b : Score) → score_length K (joined j a b) ≡ length_of j (score_length K a) (score_length K b)
joined_length K Sequence a b = refl
joined_length K Parallel a b = refl

pub seen_node_lem : {P : Type 0} (f : P → Numbers) (j : Join) → seen f (node_of j) ≡ node_of j
seen_node_lem f Sequence = refl
seen_node_lem f Parallel = refl
