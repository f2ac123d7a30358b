-- The checks of a call on the places of a rack.
use Rattle.std.specs.Prelude.{ℕ, not, length, is_some, nat_lt, Ok, Err, Result}
use Rattle.refusals.specs.declared.refusal.Refusal.{Refusal}
use Rattle.refusals.specs.declared.refusal.Refusal.TheVariants.{NoSuchPlace, EmptyPlace, FullPlace}
use Rattle.refusals.specs.Checks.{Check, passed, unless}
use Rattle.rack.specs.Shelves.{Shelf, at}

-- The rack has the place.
abbrev pub known : Shelf → ℕ → Check
known shelf p = unless (nat_lt p (length shelf)) (NoSuchPlace p)

-- The place holds a score.
abbrev pub holding : Shelf → ℕ → Check
holding shelf p = unless (is_some (at shelf p)) (EmptyPlace p)

-- The place holds none.
abbrev pub vacant : Shelf → ℕ → Check
vacant shelf p = unless (not (is_some (at shelf p))) (FullPlace p)

-- An answer that hands something out, by its refusal alone.
abbrev pub held_check : {X : Type 0} → Result X Refusal → Check
held_check (Ok x) = passed
held_check (Err e) = Err e
