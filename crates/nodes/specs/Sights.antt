-- What is seen at a node.
use Rattle.std.specs.Prelude.{◌≡◌, ℕ, List}
use Rattle.algebra.specs.declared.numbers.Numbers.{Numbers}
use Rattle.algebra.specs.Score.{Score.rest, Score.primitive, Score.sequence, Score.parallel}
use Rattle.algebra.specs.declared.node.Node.{Node}
use Rattle.nodes.specs.declared.join.Join.TheVariants as joins
use Rattle.nodes.specs.declared.score.Look.{Look}
use Rattle.nodes.specs.declared.score.Look.TheVariants as looks
use Rattle.algebra.specs.Layout.{score_at}
use Rattle.nodes.specs.Pairs.{Pair}

-- What is seen at a node says what score begins there.
abbrev pub Seen : {P : Type 0} → (P → Numbers) → List (Node Numbers) → ℕ → Look P ℕ → Type 0
Seen f xs at (looks.Rest d) = score_at xs at ≡ rest d
Seen f xs at (looks.Primitive x) = score_at xs at ≡ primitive (f x)
Seen f xs at (looks.Pair joins.Sequence l r) = Pair sequence xs at l r
Seen f xs at (looks.Pair joins.Parallel l r) = Pair parallel xs at l r
