-- Two scores put together.
use Rattle.std.specs.Prelude.{ℕ, ◌+◌, max}
use Rattle.algebra.specs.declared.node.Node.{Node}
use Rattle.algebra.specs.declared.node.Node.TheVariants.{Sequence, Parallel}
use Rattle.algebra.specs.Score.{Score, Score.sequence, Score.parallel}
use Rattle.nodes.specs.declared.join.Join.{Join}
use Rattle.nodes.specs.declared.join.Join.TheVariants as joints

-- The score of two.
abbrev pub joined : Join → Score → Score → Score
joined joints.Sequence a b = sequence a b
joined joints.Parallel a b = parallel a b

-- The node of a pair.
abbrev pub node_of : {P : Type 0} → Join → Node P
node_of joints.Sequence = Sequence
node_of joints.Parallel = Parallel

-- The length of a pair, from those of its parts: the sum, or the greater.
abbrev pub length_of : Join → ℕ → ℕ → ℕ
length_of joints.Sequence m n = m + n
length_of joints.Parallel m n = max m n
