-- What the calls answer that put a new score at an empty place.
use Rattle.std.specs.Prelude.{◌≡◌, ℕ, List, [], ◌∷◌, ◌++◌, Some, None, nat_le}
use Rattle.algebra.specs.Kind.{KindModel}
use Rattle.algebra.specs.Score.{Score, nodes}
use Rattle.algebra.specs.Limits.{Fits}
use Rattle.nodes.specs.declared.join.Join.{Join}
use Rattle.nodes.specs.Joins.{joined}
use Rattle.refusals.specs.declared.refusal.Refusal.TheVariants.{BadValue}
use Rattle.rack.specs.Shelves.{Shelf, at, score_held}
use Rattle.refusals.specs.Checks.{Check, all, unless}
use Rattle.building.specs.declared.size.Size.{Size}
use Rattle.building.specs.Sizes.{size_of, limits}
use Rattle.rack.specs.Checks.{known, holding, vacant}

-- Rest: 10 with the ticks, 21, 23.
abbrev pub rest_answer : Shelf → ℕ → ℕ → Check
rest_answer shelf to ticks = all (unless (nat_le ticks 16777215) (BadValue ticks) ∷ known shelf to ∷ vacant shelf to ∷ [])

-- The places of a join: 21 for the destination and for each of the two, 22 for each of the two, 23.
abbrev pub joinable : Shelf → ℕ → ℕ → ℕ → List Check
joinable shelf to a b = known shelf to ∷ known shelf a ∷ known shelf b ∷ holding shelf a ∷ holding shelf b ∷ vacant shelf to ∷ []

-- The result of a join.
abbrev pub joined_at : Join → Shelf → ℕ → ℕ → Score
joined_at join shelf a b = joined join (score_held shelf a) (score_held shelf b)

-- Join: 21, 22 and 23 by the places, and 26 and 27 by the result.
abbrev pub join_answer : KindModel → Join → Shelf → ℕ → ℕ → ℕ → Check
join_answer K join shelf to a b = all (joinable shelf to a b ++ limits K (joined_at join shelf a b))

-- Two scores of m and n nodes are held that may be put together at a place that holds none, and what they make has the size.
pub record JoinReady (K : KindModel) (shelf : Shelf) (join : Join) (to a b m n : ℕ) (size : Size) : Type 0 where
  pub left : Score
  pub right : Score
  pub left_held : at shelf a ≡ Some left
  pub right_held : at shelf b ≡ Some right
  pub empty : at shelf to ≡ None
  pub left_nodes : m ≡ nodes left
  pub right_nodes : n ≡ nodes right
  pub size_is : size ≡ size_of K (joined join left right)
  pub fits : Fits K (joined join left right)

-- The places of a call that makes a score from one: 21 for the destination and for the source, 22 for the source, 23.
abbrev pub makeable : Shelf → ℕ → ℕ → List Check
makeable shelf to from = known shelf to ∷ known shelf from ∷ holding shelf from ∷ vacant shelf to ∷ []

-- Reverse, take, drop and normalise, by the score that they make: 21, 22 and 23 by the places, and 26 and 27 by the result.
abbrev pub make_answer : KindModel → Shelf → ℕ → ℕ → Score → Check
make_answer K shelf to from result = all (makeable shelf to from ++ limits K result)
