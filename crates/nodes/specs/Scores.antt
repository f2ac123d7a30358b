-- What is seen of a score, and of its parts.
use Rattle.std.specs.Prelude.{◌≡◌, ℕ, ◌<◌}
use Rattle.algebra.specs.declared.numbers.Numbers.{Numbers}
use Rattle.algebra.specs.Layout.{preorder, score_at}
use Rattle.algebra.specs.Score.{Score, Score.rest, Score.primitive, nodes}
use Rattle.nodes.specs.declared.join.Join.{Join}
use Rattle.nodes.specs.declared.score.Look.{Look}
use Rattle.nodes.specs.declared.score.Look.TheVariants.{Rest, Primitive, Pair}
use Rattle.nodes.specs.Joins.{joined}

-- The part of a score that begins at a node.
abbrev pub part_at : Score → ℕ → Score
part_at s at = score_at (preorder s) at

-- What is seen says what the score is.
abbrev pub Shows : {P : Type 0} → (P → Numbers) → Score → Look P Score → Type 0
Shows f s (Rest d) = s ≡ rest d
Shows f s (Primitive x) = s ≡ primitive (f x)
Shows f s (Pair j a b) = s ≡ joined j a b

-- The part that begins at a node is a pair of those that begin at two others.
pub record PairAt (s : Score) (at : ℕ) (j : Join) (left right : ℕ) : Type 0 where
  pub is : part_at s at ≡ joined j (part_at s left) (part_at s right)
  pub left_inside : left < nodes s
  pub right_inside : right < nodes s

-- What is seen at a node says what the part is that begins there.
abbrev pub ShowsAt : {P : Type 0} → (P → Numbers) → Score → ℕ → Look P ℕ → Type 0
ShowsAt f s at (Rest d) = part_at s at ≡ rest d
ShowsAt f s at (Primitive x) = part_at s at ≡ primitive (f x)
ShowsAt f s at (Pair j left right) = PairAt s at j left right
