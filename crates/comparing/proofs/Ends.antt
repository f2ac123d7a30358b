-- Where two lists that agree so far end.
use Rattle.std.proofs.Common.{◌≡◌, ℕ, zero, suc, min, List, [], ◌∷◌, length, drop, Some, None, Option, refl, arith}
use Rattle.std.specs.List.{slice_get}
use Rattle.std.specs.Option.{option_or, option_copied}
use denote.Ref.{Bor}
use Rattle.algebra.specs.Kind.{KindModel}
use Rattle.normal.specs.declared.placed.PlacedNumbers.{PlacedNumbers}
use Rattle.normal.specs.Placing.{all_placed}
use Rattle.comparing.specs.Comparisons.{found, parting}

pub copied_or : {X : Type 0} (a b : Option (Bor X)) → option_copied (option_or a b) ≡ option_or (option_copied a) (option_copied b)
copied_or None b = refl
copied_or (Some x) b = refl

-- one of them ends, and what the other has there parts them
pub ended : (K : KindModel) (n : ℕ) (xs ys : List PlacedNumbers) → n ≡ min (length xs) (length ys)
    → found (option_or (slice_get xs n) (slice_get ys n)) ≡ parting K (all_placed (drop n xs)) (all_placed (drop n ys))
ended K zero [] [] e = refl
ended K zero [] (y ∷ ys) e = refl
ended K zero (x ∷ xs) [] e = refl
ended K zero (x ∷ xs) (y ∷ ys) e = absurd (omega arith)
ended K (suc n) [] ys e = absurd (omega arith)
ended K (suc n) (x ∷ xs) [] e = absurd (omega arith)
ended K (suc n) (x ∷ xs) (y ∷ ys) e = ended K n xs ys (omega arith)
