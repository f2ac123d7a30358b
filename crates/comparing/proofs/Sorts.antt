-- What a sort leaves has the bag of what it was given, and is in order.
use Rattle.std.proofs.Common.{◌≡◌, ℕ, suc, ◌<◌, ◌≤◌, false, cond, List, [], ◌∷◌, ◌++◌, length, get_or, count_by, sym, refl, ap, ◌∙◌, arith}
use Rattle.std.specs.Ordering.{is_lt}
use Rattle.std.specs.List.Sorted.{IsPermutation, IsSortedBy}
use Rattle.std.proofs.ByRecursion.{All-map, All-from_get_or, all_shuffled}
use Rattle.std.proofs.lemmas.List.{map-append}
use Rattle.std.proofs.lemmas.List.MinMax.{ranks_by}
use Rattle.std.proofs.lemmas.List.Recursion.{is_count_by}
use Rattle.std.proofs.lemmas.List.Sorted.{sorted_far as ascends_far, sum_by-IsPermutation, IsPermutation-map}
use Rattle.algebra.specs.Bag.{count}
use Rattle.algebra.specs.Kind.{KindModel, OrderLaws, LegalNumbers}
use Rattle.algebra.specs.Meaning.{SameBag}
use Rattle.algebra.specs.Score.{Placed, same_placed}
use Rattle.algebra.specs.Compare.{compare_placed}
use Rattle.normal.specs.declared.placed.PlacedNumbers.{PlacedNumbers}
use Rattle.normal.specs.Placing.{placed_of, all_placed, AllLegal}
use Rattle.normal.proofs.Placings.{legal_at}
use Rattle.comparing.specs.Order.{any_order, NotBefore, Sorted, InOrder}
use Rattle.comparing.proofs.AnyOrder.{any_total}

-- counting, as the library has it
pub count_is : (z : Placed) (xs : List PlacedNumbers) → count same_placed z (all_placed xs) ≡ count_by (λ x. same_placed z (placed_of x)) xs
count_is z xs =
    is_count_by (λ ys. count same_placed z (all_placed ys)) (λ x. same_placed z (placed_of x)) refl
    (λ x ys. ap (λ n. cond (same_placed z (placed_of x)) n (count same_placed z (all_placed ys))) (omega arith)) xs

pub bag_sorted : (xs ys : List PlacedNumbers) → IsPermutation xs ys → SameBag (all_placed ys) (all_placed xs)
bag_sorted xs ys moved z = count_is z ys ∙ sum_by-IsPermutation (λ x. cond (same_placed z (placed_of x)) 1 0) xs ys moved ∙ sym (count_is z xs)

-- what does not come before in the order of all numbers does not by the kind's
not_before : (K : KindModel) (x y : PlacedNumbers) → LegalNumbers K x.numbers → LegalNumbers K y.numbers → is_lt (any_order K y x) ≡ false → NotBefore K (placed_of x) (placed_of y)
not_before K x y l m e d =
    let same : any_order K y x ≡ compare_placed K (placed_of y) (placed_of x) = simp (l, m) in
    let z : ◌≡◌ {A = ℕ} 0 1 = cc in omega arith

-- what is put into a list of none is all of it
pub put_alone : (none items : List PlacedNumbers) → all_placed none ≡ [] → {all : List PlacedNumbers} → all ≡ none ++ items → all_placed all ≡ all_placed items
put_alone none items e put = ap all_placed put ∙ map-append placed_of none items ∙ ap (λ xs. xs ++ all_placed items) e

module _ (K : KindModel) (order : OrderLaws K) where
  ascending : (xs : List PlacedNumbers) → AllLegal K (all_placed xs)
      → ((i j : ℕ) (d : PlacedNumbers) → i ≤ j → j < length xs → is_lt (any_order K (get_or xs j d) (get_or xs i d)) ≡ false) → Sorted K (all_placed xs)
  ascending [] l h = tt
  ascending (x ∷ xs) l h = (
    All-map (NotBefore K (placed_of x)) placed_of xs
        (All-from_get_or (λ w. NotBefore K (placed_of x) (placed_of w)) xs x
        (λ i k. not_before K x (get_or xs i x) l.0 (legal_at K xs i x k l.1) (h 0 (suc i) x (omega arith) (omega arith)))),
    ascending xs l.1 (λ i j d a b. h (suc i) (suc j) d (omega arith) (omega arith)),
  )

  pub in_order : (xs ys : List PlacedNumbers) → IsPermutation xs ys → AllLegal K (all_placed xs) → IsSortedBy (λ x y. is_lt (any_order K x y)) ys → InOrder K (all_placed ys)
  in_order xs ys moved l up =
      let legal = all_shuffled (λ (x : Placed). LegalNumbers K x.what) (all_placed xs) (all_placed ys) (IsPermutation-map placed_of xs ys moved) l in
      record { legal = legal; sorted = ascending ys legal (ascends_far (λ x y. is_lt (any_order K x y)) (ranks_by (any_total K order) (λ x. x)) ys up) }
