-- The steps of spending partners, over the lists of the code.
use Rattle.std.proofs.Common.{◌≡◌, ℕ, ◌+◌, ◌≤◌, Bool, true, false, not, List, Some, None, Option, length, get_or, set, sym, ap, ◌∙◌, subst, arith}
use Rattle.std.specs.List.{slice_get}
use Rattle.std.specs.Option.{is_some, option_eq, option_copied, option_map}
use Rattle.std.proofs.lemmas.Bool.{true≢false, not-false, not-true}
use Rattle.std.proofs.lemmas.List.{length-map}
use Rattle.std.proofs.lemmas.Option.{slice_get-map, slice_get_within}
use denote.Ref.{Bor}
use Rattle.algebra.specs.Kind.{KindModel, OrderLaws, LegalNumbers}
use Rattle.algebra.specs.Score.{Placed, same_placed}
use Rattle.algebra.proofs.Complete.{placed_equality}
use Rattle.normal.specs.declared.placed.PlacedNumbers.{PlacedNumbers}
use Rattle.normal.specs.Placing.{placed_of, all_placed}
use Rattle.comparing.specs.Order.{InOrder}
use Rattle.partners.specs.Runs.{start_of_run, Spent}
use Rattle.partners.proofs.Tallies.{one_spent, none_spent}

-- the code's test of two placed primitives
abbrev pub equal : Bor PlacedNumbers → Bor PlacedNumbers → Bool
equal a b = same_placed (placed_of a.now) (placed_of b.now)

equal_some : (o : Option (Bor PlacedNumbers)) (x : Bor PlacedNumbers) → option_eq equal o (Some x) ≡ true → option_map placed_of (option_copied o) ≡ Some (placed_of x.now)
equal_some None x e = absurd (true≢false (sym e))
equal_some (Some y) x e = ap Some (placed_equality.sound (placed_of y.now) (placed_of x.now) e)

some_equal : (o : Option (Bor PlacedNumbers)) (x : Bor PlacedNumbers) → option_map placed_of (option_copied o) ≡ Some (placed_of x.now) → option_eq equal o (Some x) ≡ true
some_equal None x e = absurd (true≢false (ap is_some (sym e)))
some_equal (Some y) x e = let d : placed_of y.now ≡ placed_of x.now = cc in subst (λ z. same_placed (placed_of y.now) z ≡ true) d (placed_equality.self (placed_of y.now))

module _ (K : KindModel) (order : OrderLaws K) (sorted : List Placed) (items : List PlacedNumbers) (placed : all_placed items ≡ sorted) (ordered : InOrder K sorted) (spent : List ℕ) (room : length items ≤ length spent)
    (x : PlacedNumbers) (x_legal : LegalNumbers K x.numbers) (start : ℕ) (starts : start ≡ start_of_run K (placed_of x) sorted) where
  abbrev next : ℕ
  next = start + get_or spent start 0

  long : length sorted ≡ length items
  long = sym (ap length placed) ∙ length-map items placed_of

  reads : get_or spent start 0 ≡ get_or spent (start_of_run K (placed_of x) sorted) 0
  reads = ap (λ k. get_or spent k 0) starts

  -- what stands where the next of the run would
  there : slice_get sorted (start_of_run K (placed_of x) sorted + get_or spent start 0) ≡ option_map placed_of (slice_get items next)
  there = (λ i. slice_get (sym placed i) (sym starts i + get_or spent start 0)) ∙ slice_get-map placed_of items next

  left_over : (slice_get sorted (start_of_run K (placed_of x) sorted + get_or spent start 0) ≡ Some (placed_of x) → ⊥) → Spent K sorted spent sorted spent (placed_of x) false
  left_over none = none_spent K order (placed_of x) sorted spent x_legal ordered.legal ordered.sorted (omega (arith, long)) (get_or spent start 0) reads none

  pub past_end : length items ≤ next → Spent K sorted spent sorted spent (placed_of x) false
  past_end h = left_over (λ e. omega (arith, slice_get_within sorted _ _ e, long, starts))

  -- what stands there, as the code finds it
  module _ (o : Option (Bor PlacedNumbers)) (found : option_copied o ≡ slice_get items next) (y : Bor PlacedNumbers) (is : y.now ≡ x) (differs : Bool) (tested : differs ≡ not (option_eq equal o (Some y))) where
    found_there : slice_get sorted (start_of_run K (placed_of x) sorted + get_or spent start 0) ≡ option_map placed_of (option_copied o)
    found_there = there ∙ ap (option_map placed_of) (sym found)

    sought : Some (placed_of y.now) ≡ Some (placed_of x)
    sought = ap (λ z. Some (placed_of z)) is

    pub partner_here : differs ≡ false → Spent K sorted spent sorted (set spent start (get_or spent start 0 + 1)) (placed_of x) true
    partner_here t =
        subst (λ k. Spent K sorted spent sorted (set spent k (get_or spent start 0 + 1)) (placed_of x) true) (sym starts)
        (one_spent K order (placed_of x) sorted spent x_legal ordered.legal ordered.sorted (omega (arith, long)) (get_or spent start 0) reads (found_there ∙ equal_some o y (not-false _ (sym tested ∙ t)) ∙ sought))

    pub another_here : differs ≡ true → Spent K sorted spent sorted spent (placed_of x) false
    another_here t = left_over (λ e. true≢false (sym (some_equal o y (sym found_there ∙ e ∙ sym sought)) ∙ not-true _ (sym tested ∙ t)))
