-- How a tally of spent partners goes on.
use Rattle.std.proofs.Common.{◌≡◌, ℕ, suc, ◌+◌, ◌<◌, ◌≤◌, min, Bool, true, false, cond, ◌≢◌, List, [], ◌∷◌, Some, length, get_or, set, replicate, sym, refl, ap, ◌∙◌, subst, inl, inr, arith, le-ltb, lt-ltb}
use Rattle.std.specs.List.{AllByRecursion, slice_get}
use Rattle.std.proofs.lemmas.Bool.{cases_lt}
use Rattle.std.proofs.lemmas.Option.{slice_get_within}
use Rattle.std.proofs.lemmas.List.{get_or-set_same, get_or-set_other, get_or_past, get_or-replicate, length-replicate}
use Rattle.algebra.specs.Bag.{count}
use Rattle.algebra.specs.Kind.{KindModel, OrderLaws}
use Rattle.algebra.specs.Score.{Placed, same_placed}
use Rattle.algebra.proofs.Compare.{LegalPlaced}
use Rattle.algebra.proofs.Complete.{placed_equality}
use Rattle.comparing.specs.Order.{Sorted}
use Rattle.partners.specs.Runs.{start_of_run, Tally, Spent}
use Rattle.partners.proofs.Starts.{at_start, starts_apart}

none_yet : (n k : ℕ) → get_or {A = ℕ} (replicate n 0) k 0 ≡ 0
none_yet n k = elim (cases_lt k n) [
  | inl l ↦ get_or-replicate {A = ℕ} n k 0 0 l
  | inr h ↦ get_or_past {X = ℕ} (replicate n 0) k 0 (omega (arith, length-replicate {A = ℕ} n 0))
]

-- the tally before anything is spent
pub nothing_spent : (K : KindModel) (other : List Placed) (n : ℕ) → Tally K other (replicate n 0) []
nothing_spent K other n x p = none_yet n (start_of_run K x other) ∙ omega arith

module _ (K : KindModel) (order : OrderLaws K) (y : Placed) (ws : List Placed) (spent : List ℕ) (y_legal : LegalPlaced K order y) (legal : AllByRecursion (LegalPlaced K order) ws) (sorted : Sorted K ws) (room : length ws ≤ length spent) where
  abbrev start : ℕ
  start = start_of_run K y ws

  apart : (x : Placed) → 0 < count same_placed x ws → 0 < count same_placed y ws → same_placed x y ≡ false → start_of_run K x ws ≢ start
  apart x p q e d =
      let same = starts_apart K order x y ws legal sorted p q d in
      let t : same_placed x y ≡ true = subst (λ z. same_placed x z ≡ true) same (placed_equality.self x) in
      let z : ◌≡◌ {A = ℕ} 0 1 = cc in omega arith

  module _ (v : ℕ) (reads : v ≡ get_or spent start 0) where
    -- the next of the run is there, and is noted
    module _ (there : slice_get ws (start + v) ≡ Some y) where
      left : v < count same_placed y ws
      left = (at_start K order y y_legal ws v legal sorted).1 there

      inside : start < length spent
      inside = omega (arith, slice_get_within ws (start + 0) y ((at_start K order y y_legal ws 0 legal sorted).0 (omega (arith, left))))

      noted : (before : List Placed) → Tally K ws spent before → Tally K ws (set spent start (v + 1)) (y ∷ before)
      noted before t x p = go (same_placed x y) refl
        where
          go : (b : Bool) → same_placed x y ≡ b → get_or (set spent start (v + 1)) (start_of_run K x ws) 0 ≡ min (cond b (suc (count same_placed x before)) (count same_placed x before)) (count same_placed x ws)
          go true e =
              let same = placed_equality.sound x y e in
              let r : start_of_run K x ws ≡ start = ap (λ z. start_of_run K z ws) same in
              let n : count same_placed x ws ≡ count same_placed y ws = ap (λ z. count same_placed z ws) same in
              let was : get_or spent (start_of_run K x ws) 0 ≡ get_or spent start 0 = ap (λ k. get_or spent k 0) r in
              ap (λ k. get_or (set spent start (v + 1)) k 0) r ∙ get_or-set_same spent start (v + 1) 0 inside ∙ omega (arith, t x p, left)
          go false e = get_or-set_other spent start (start_of_run K x ws) (v + 1) 0 (apart x p (omega (arith, left)) e) ∙ t x p

      pub one_spent : Spent K ws spent ws (set spent start (v + 1)) y true
      one_spent = record {
        answer_is = λ other before n. sym (lt-ltb (count same_placed y before) (count same_placed y other) (omega (arith, left, n.bag y, n.tally y (omega (arith, left)))));
        after_is = λ other before n. record { bag = n.bag; tally = noted before n.tally };
      }

    -- no more of the run is left
    module _ (none : slice_get ws (start + v) ≡ Some y → ⊥) where
      most : count same_placed y ws ≤ v
      most = elim (cases_lt v (count same_placed y ws)) [ inl l ↦ absurd (none ((at_start K order y y_legal ws v legal sorted).0 l)) | inr h ↦ h ]

      kept : (before : List Placed) → Tally K ws spent before → Tally K ws spent (y ∷ before)
      kept before t x p = go (same_placed x y) refl
        where
          go : (b : Bool) → same_placed x y ≡ b → get_or spent (start_of_run K x ws) 0 ≡ min (cond b (suc (count same_placed x before)) (count same_placed x before)) (count same_placed x ws)
          go true e =
              let same = placed_equality.sound x y e in
              let r : get_or spent (start_of_run K x ws) 0 ≡ get_or spent start 0 = ap (λ z. get_or spent (start_of_run K z ws) 0) same in
              let n : count same_placed x ws ≡ count same_placed y ws = ap (λ z. count same_placed z ws) same in
              omega (arith, t x p, most)
          go false e = t x p

      pub none_spent : Spent K ws spent ws spent y false
      none_spent = record {
        answer_is = λ other before n. sym (le-ltb (count same_placed y before) (count same_placed y other) (elim (cases_lt 0 (count same_placed y ws)) [ inl l ↦ omega (arith, most, n.bag y, n.tally y l) | inr h ↦ omega (arith, n.bag y) ]));
        after_is = λ other before n. record { bag = n.bag; tally = kept before n.tally };
      }
