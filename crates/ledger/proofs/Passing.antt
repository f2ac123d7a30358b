-- What is known where the checks of a call pass.
use Rattle.std.proofs.Common.{◌≡◌, ℕ, ◌<◌, ◌≤◌, Bool, true, false, ◌&&◌, ltb, leb, List, [], ◌∷◌, ◌++◌, length, is_some, Ok, Err, refl, arith}
use Rattle.std.proofs.lemmas.Bool.Decides.{nat_tests}
use Rattle.refusals.specs.declared.refusal.Refusal.{Refusal}
use Rattle.algebra.specs.Kind.{KindModel}
use Rattle.algebra.specs.Score.{Score, nodes, primitives, score_length}
use Rattle.algebra.specs.Limits.{Fits}
use Rattle.rack.specs.Shelves.{Shelf, at}
use Rattle.refusals.specs.Checks.{Check, passed, unless, all}
use Rattle.building.specs.Sizes.{few, short, limits}
use Rattle.rack.specs.Checks.{known, holding}

-- the first check and the others
pub all_split : (c : Check) (more : List Check) → all (c ∷ more) ≡ passed → (c ≡ passed) × (all more ≡ passed)
all_split (Ok u) more h = (refl, h)
all_split (Err e) more h = absurd (grind arith)

-- some checks and the others
pub all_parts : (xs ys : List Check) → all (xs ++ ys) ≡ passed → (all xs ≡ passed) × (all ys ≡ passed)
all_parts [] ys h = (refl, h)
all_parts (Ok u ∷ xs) ys h = all_parts xs ys h
all_parts (Err e ∷ xs) ys h = absurd (grind arith)

pub unless_true : (b : Bool) (e : Refusal) → unless b e ≡ passed → b ≡ true
unless_true true e h = refl
unless_true false e h = absurd (grind arith)

pub known_below : (shelf : Shelf) (p : ℕ) → known shelf p ≡ passed → p < length shelf
known_below shelf p h = let t = unless_true (ltb p (length shelf)) _ h in grind (arith, nat_tests)

pub holding_some : (shelf : Shelf) (p : ℕ) → holding shelf p ≡ passed → is_some (at shelf p) ≡ true
holding_some shelf p h = unless_true (is_some (at shelf p)) _ h

within_few : (n m : ℕ) → few n m ≡ passed → (n ≤ 1023) × (m ≤ 170)
within_few n m h = let t = unless_true (leb n 1023 && leb m 170) _ h in (grind (arith, nat_tests), grind (arith, nat_tests))

pub within_short : (n : ℕ) (e : Refusal) → unless (leb n 16777215) e ≡ passed → n ≤ 16777215
within_short n e h = let t = unless_true (leb n 16777215) e h in grind (arith, nat_tests)

-- a score within the limits
pub within_limits : (K : KindModel) (s : Score) → all (limits K s) ≡ passed → Fits K s
within_limits K s h =
    let a = all_split (few (nodes s) (primitives s)) (short (score_length K s) ∷ []) h in
    let b = all_split (short (score_length K s)) [] a.1 in
    let w = within_few (nodes s) (primitives s) a.0 in
    record { few_nodes = w.0; few_primitives = w.1; short = within_short (score_length K s) _ b.0 }
