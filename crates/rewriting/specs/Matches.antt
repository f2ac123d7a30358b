-- What a score is, where a certain form is looked for.
use Rattle.std.specs.Prelude.{◌≡◌, ℕ, Some, None, Option}
use Rattle.algebra.specs.Score.{Score, Score.rest}
use Rattle.algebra.specs.Rewrite.{in_rest, in_sequence, in_parallel}
use Rattle.nodes.specs.declared.join.Join.{Join}
use Rattle.nodes.specs.declared.join.Join.TheVariants.{Sequence, Parallel}
use Rattle.nodes.specs.Joins.{joined}

-- What is made of the parts of such a join; none of another score.
abbrev pub in_join : Join → Score → (Score → Score → Option Score) → Option Score
in_join Sequence s f = in_sequence s f
in_join Parallel s f = in_parallel s f

-- The two parts of a score, if it is such a join.
abbrev pub JoinFound : Join → Score → Option (Score × Score) → Type 0
JoinFound join s None = (make : Score → Score → Option Score) → in_join join s make ≡ None
JoinFound join s (Some parts) = s ≡ joined join parts.0 parts.1

-- The length of a rest, if a score is one.
abbrev pub RestFound : Score → Option ℕ → Type 0
RestFound s None = (make : ℕ → Option Score) → in_rest s make ≡ None
RestFound s (Some ticks) = s ≡ rest ticks
