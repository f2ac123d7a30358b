-- Those with a partner, and those without, one by one.
use Rattle.std.proofs.Common.{◌≡◌, ℕ, ◌+◌, ◌<◌, Bool, true, false, cond, List, [], ◌∷◌, ◌++◌, length, get_or, drop, sym, ap, ◌∙◌, arith}
use Rattle.std.proofs.lemmas.List.{append_assoc, length-append, drop_more}
use mathlib.Core.Bool.{beq}
use Rattle.algebra.specs.Bag.{has_partner}
use Rattle.algebra.specs.Score.{Placed, same_placed}
use Rattle.normal.specs.declared.placed.PlacedNumbers.{PlacedNumbers}
use Rattle.normal.specs.Placing.{placed_of, all_placed}
use Rattle.partners.specs.Choosing.{chosen}

module _ (other before : List Placed) (x : Placed) (xs : List Placed) where
  abbrev more : Bool → List Placed
  more want = chosen want other (x ∷ before) xs

  chosen_by : (want has : Bool) → has ≡ has_partner same_placed other before x → chosen want other before (x ∷ xs) ≡ cond (beq has want) (x ∷ more want) (more want)
  chosen_by true true e = ap (λ b. cond b (x ∷ more true) (more true)) (sym e)
  chosen_by true false e = ap (λ b. cond b (x ∷ more true) (more true)) (sym e)
  chosen_by false true e = ap (λ b. cond b (more false) (x ∷ more false)) (sym e)
  chosen_by false false e = ap (λ b. cond b (more false) (x ∷ more false)) (sym e)

-- a loop over a list has come as far as its next, and it is known what that has
module _ (want : Bool) (other before : List Placed) (items : List PlacedNumbers) (i : ℕ) (d : PlacedNumbers) (h : i < length items) (has : Bool)
    (says : has ≡ has_partner same_placed other before (placed_of (get_or items i d))) (out whole : List Placed) (stand : out ++ chosen want other before (all_placed (drop i items)) ≡ whole) where
  abbrev rest : List Placed
  rest = chosen want other (placed_of (get_or items i d) ∷ before) (all_placed (drop (i + 1) items))

  split : (b : Bool) → beq has want ≡ b → out ++ cond b (placed_of (get_or items i d) ∷ rest) rest ≡ whole
  split b e =
      ap (λ ys. out ++ ys) (sym (ap (λ ys. chosen want other before (all_placed ys)) (drop_more items i d h)
      ∙ chosen_by other before (placed_of (get_or items i d)) (all_placed (drop (i + 1) items)) want has says
      ∙ ap (λ b. cond b (placed_of (get_or items i d) ∷ rest) rest) e))
      ∙ stand

  module _ (e : beq has want ≡ true) where
    pub room : length out < length whole
    room = omega (arith, ap length (split true e), length-append out (placed_of (get_or items i d) ∷ rest))

    pub one_more : {new : List Placed} → new ≡ out ++ (placed_of (get_or items i d) ∷ []) → new ++ rest ≡ whole
    one_more n = ap (λ ys. ys ++ rest) n ∙ append_assoc out (placed_of (get_or items i d) ∷ []) rest ∙ split true e

  pub none_more : beq has want ≡ false → {new : List Placed} → new ≡ out → new ++ rest ≡ whole
  none_more e n = ap (λ ys. ys ++ rest) n ∙ split false e
