-- What the places of a rack hold. In clauses a rack is this list.
use Rattle.std.specs.Prelude.{◌≡◌, ℕ, List, Some, None, Option, slice_index_or}
use Rattle.algebra.specs.Kind.{KindModel}
use Rattle.algebra.specs.Limits.{Holdable}
use Rattle.algebra.specs.Score.{Score}
use Rattle.building.specs.Rows.{score_in}

-- A score or nothing for each place, by the numbers of the primitives.
abbrev pub Shelf : Type 0
Shelf = List (Option Score)

-- What a place holds; nothing where there is no such place.
abbrev pub at : Shelf → ℕ → Option Score
at shelf p = slice_index_or shelf p None

-- The score at a place, or an empty rest where there is none.
abbrev pub score_held : Shelf → ℕ → Score
score_held shelf p = score_in (at shelf p)

-- What is held is of the kind and within the limits, at each place.
abbrev pub AllHoldable : KindModel → Shelf → Type 0
AllHoldable K shelf = (p : ℕ) (s : Score) → at shelf p ≡ Some s → Holdable K s
