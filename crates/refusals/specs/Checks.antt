-- The checks of a call, tried in the order of the refusal numbers.
use Rattle.std.specs.Prelude.{Bool, cond, List, [], ◌∷◌, Ok, Err, Result}
use Rattle.refusals.specs.declared.refusal.Refusal.{Refusal}

abbrev pub Check : Type 0
Check = Result (Unit {0}) Refusal

abbrev pub passed : Check
passed = Ok tt

abbrev pub unless : Bool → Refusal → Check
unless b e = cond b passed (Err e)

-- The first check that fails.
abbrev pub all : List Check → Check
all [] = passed
all (Ok u ∷ more) = all more
all (Err e ∷ more) = Err e

-- What follows the checks, where they pass.
abbrev pub followed : {X : Type 0} → Check → Result X Refusal → Result X Refusal
followed (Ok u) r = r
followed (Err e) r = Err e
