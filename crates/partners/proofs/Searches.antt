-- Those that come before a placed primitive stand in front of a list in order.
use Rattle.std.proofs.Common.{◌≡◌, ℕ, zero, suc, ◌+◌, ◌<◌, ◌≤◌, Bool, true, false, cond, List, [], ◌∷◌, length, get_or, sym, refl, ap, ◌∙◌, arith}
use Rattle.std.specs.List.{prefix_len}
use Rattle.std.specs.List.Sorted.{IsPartitionedBy, IsPartitionPoint}
use Rattle.std.specs.Ordering.{is_lt}
use Rattle.std.proofs.ByRecursion.{All-get_or}
use Rattle.std.proofs.lemmas.List.{get_or-map, length-map}
use Rattle.std.proofs.lemmas.List.Sums.{prefix_len_is}
use Rattle.algebra.specs.Kind.{KindModel, OrderLaws, LegalNumbers}
use Rattle.algebra.specs.Compare.{compare_placed}
use Rattle.normal.specs.declared.placed.PlacedNumbers.{PlacedNumbers}
use Rattle.normal.specs.Placing.{placed_of, all_placed, AllLegal}
use Rattle.normal.proofs.Placings.{legal_at}
use Rattle.comparing.specs.Order.{any_order, NotBefore, Sorted}
use Rattle.partners.specs.Runs.{start_of_run}
use Rattle.partners.proofs.Starts.{less, none_before, not_less}

module _ (K : KindModel) (order : OrderLaws K) (x : PlacedNumbers) (x_legal : LegalNumbers K x.numbers) where
  -- whether one comes before x, as the code tells it
  abbrev pub ahead : PlacedNumbers → Bool
  ahead y = is_lt (any_order K y x)

  ahead_is : (y : PlacedNumbers) → LegalNumbers K y.numbers → ahead y ≡ is_lt (compare_placed K (placed_of y) (placed_of x))
  ahead_is y l = simp (l, x_legal)

  -- where a later one comes before x the first does
  first_ahead : (y : PlacedNumbers) (ys : List PlacedNumbers) → AllLegal K (all_placed (y ∷ ys)) → Sorted K (all_placed (y ∷ ys)) → (j : ℕ) (d : PlacedNumbers) → j < length ys → ahead (get_or ys j d) ≡ true → ahead y ≡ true
  first_ahead y ys l s j d h e = go (ahead y) refl
    where
      go : (b : Bool) → ahead y ≡ b → b ≡ true
      go true t = refl
      go false t =
          let none = none_before K order (placed_of x) x_legal (placed_of y) (all_placed ys) l s (not_less K order (placed_of x) x_legal (placed_of y) _ refl (sym (ahead_is y l.0) ∙ t)) in
          let is = sym (ahead_is (get_or ys j d) (legal_at K ys j d h l.1)) ∙ e in
          absurd (All-get_or (NotBefore K (placed_of x)) (all_placed ys) j (placed_of d) (omega (arith, length-map ys placed_of)) none.1 (less _ (ap (λ z. is_lt (compare_placed K z (placed_of x))) (get_or-map placed_of ys j d (placed_of d) h) ∙ is)))

  pub partitioned : (xs : List PlacedNumbers) → AllLegal K (all_placed xs) → Sorted K (all_placed xs) → IsPartitionedBy ahead xs
  partitioned [] l s i j d m h e = absurd (omega arith)
  partitioned (y ∷ ys) l s zero zero d m h e = e
  partitioned (y ∷ ys) l s zero (suc j) d m h e = first_ahead y ys l s j d (omega arith) e
  partitioned (y ∷ ys) l s (suc i) zero d m h e = absurd (omega arith)
  partitioned (y ∷ ys) l s (suc i) (suc j) d m h e = partitioned ys l.1 s.1 i j d (omega arith) (omega arith) e

  start_listed : (xs : List PlacedNumbers) → AllLegal K (all_placed xs) → prefix_len ahead xs ≡ start_of_run K (placed_of x) (all_placed xs)
  start_listed [] l = refl
  start_listed (y ∷ ys) l = let e = ahead_is y l.0 in let n = start_listed ys l.1 in λ i. cond (e i) (1 + n i) 0

  -- where they end the run of x begins
  pub start_there : (xs : List PlacedNumbers) (n : ℕ) → AllLegal K (all_placed xs) → n ≤ length xs → IsPartitionPoint (λ y. ahead y ≡ true) (λ y. ahead y ≡ false) xs n → n ≡ start_of_run K (placed_of x) (all_placed xs)
  start_there xs n l h p = sym (prefix_len_is ahead xs n x h (λ k j. p.0 k x (omega arith) j) (λ j. p.1 n x (omega arith) j)) ∙ start_listed xs l
