-- How a score lies in a row of nodes: in preorder, a pair, then its left part, then its right.
use Rattle.std.specs.Prelude.{ℕ, List, [], ◌∷◌, ◌++◌, map, drop}
use Rattle.algebra.specs.declared.numbers.Numbers.{Numbers}
use Rattle.algebra.specs.declared.node.Node.{Node}
use Rattle.algebra.specs.declared.node.Node.TheVariants.{Rest, Primitive, Sequence, Parallel}
use Rattle.algebra.specs.Score.{Score, Score.rest, Score.primitive, Score.sequence, Score.parallel}

-- A score's nodes. Node k of a score is the k-th of these, counted from 0.
abbrev pub preorder : Score → List (Node Numbers)
preorder (rest d) = Rest d ∷ []
preorder (primitive p) = Primitive p ∷ []
preorder (sequence a b) = Sequence ∷ (preorder a ++ preorder b)
preorder (parallel a b) = Parallel ∷ (preorder a ++ preorder b)

-- A node, and a row, by the numbers of the primitives.
abbrev pub seen : {P : Type 0} → (P → Numbers) → Node P → Node Numbers
seen f (Rest d) = Rest d
seen f (Primitive x) = Primitive (f x)
seen f Sequence = Sequence
seen f Parallel = Parallel

abbrev pub view : {P : Type 0} → (P → Numbers) → List (Node P) → List (Node Numbers)
view f row = map (seen f) row

abbrev pub joined : (Score → Score → Score) → List Score → List Score
joined f [] = []
joined f (a ∷ []) = []
joined f (a ∷ (b ∷ ss)) = f a b ∷ ss

-- The scores that stand one after the other in a row, read from its right end.
abbrev pub stack : List (Node Numbers) → List Score
stack [] = []
stack (Rest d ∷ xs) = rest d ∷ stack xs
stack (Primitive p ∷ xs) = primitive p ∷ stack xs
stack (Sequence ∷ xs) = joined sequence (stack xs)
stack (Parallel ∷ xs) = joined parallel (stack xs)

abbrev pub foremost : List Score → Score
foremost [] = rest 0
foremost (s ∷ ss) = s

-- The score that begins at a node of a row, and the one that begins the row.
abbrev pub score_at : List (Node Numbers) → ℕ → Score
score_at xs i = foremost (stack (drop i xs))

abbrev pub score_of : List (Node Numbers) → Score
score_of xs = foremost (stack xs)
