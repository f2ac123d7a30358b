-- Where two lists in order first part, the lesser of what stands there is the least whose counts differ.
use Rattle.std.proofs.Common.{◌≡◌, ℕ, true, not, List, [], ◌∷◌, ◌++◌, Some, None, Option, Ordering, Less, Equal, Greater, sym, refl, ap, ◌∙◌, subst, ap₂, inl, inr, arith}
use Rattle.std.specs.List.{AllByRecursion}
use Rattle.std.proofs.ByRecursion.{All-append, All-weaker}
use Rattle.std.proofs.lemmas.Bool.{cases_eq, eqb-false, ne_eqb, not-true}
use Rattle.algebra.specs.Bag.{count}
use Rattle.algebra.specs.Kind.{KindModel, OrderLaws, opposite}
use Rattle.algebra.specs.Meaning.{SameBag}
use Rattle.algebra.specs.Score.{Placed, same_placed}
use Rattle.algebra.specs.Compare.{Answer.differs, compare_placed, least, counts_differ, answer_of}
use Rattle.algebra.proofs.Compare.{LegalPlaced, self, equal, flipped, before, Least, least_is}
use Rattle.algebra.proofs.Complete.{placed_equality}
use Rattle.algebra.proofs.Differing.{all_count, occurs, none_differs}
use Rattle.algebra.proofs.Sounds.{all_both}
use Rattle.normal.specs.Placing.{AllLegal}
use Rattle.comparing.specs.Order.{NotBefore, Sorted, InOrder}
use Rattle.comparing.specs.Comparisons.{bag_answer, lesser_of, parting}
use Rattle.comparing.proofs.Bags.{all_bag}

-- x is the least whose counts differ, or there is none
abbrev pub LeastDiffers : KindModel → List Placed → List Placed → Option Placed → Type 0
LeastDiffers K xs ys None = SameBag xs ys
LeastDiffers K xs ys (Some x) = (count same_placed x xs ≡ count same_placed x ys → ⊥) × ((y : Placed) → compare_placed K y x ≡ Less → count same_placed y xs ≡ count same_placed y ys)

-- what fails of everything in a list does not occur there
pub absent : (P : Placed → Type 0) (xs : List Placed) → AllByRecursion P xs → (y : Placed) → (P y → ⊥) → count same_placed y xs ≡ 0
absent P xs h y n = elim (cases_eq (count same_placed y xs) 0) [ inl e ↦ e | inr ne ↦ absurd (n (all_count P xs h y (omega arith))) ]

exchanged : (K : KindModel) (xs ys : List Placed) (o : Option Placed) → LeastDiffers K xs ys o → LeastDiffers K ys xs o
exchanged K xs ys None h = λ x. sym (h x)
exchanged K xs ys (Some x) h = ((λ e. h.0 (sym e)), λ y d. sym (h.1 y d))

-- one more of the same in both
both_more : (K : KindModel) (x : Placed) (xs ys : List Placed) (o : Option Placed) → LeastDiffers K xs ys o → LeastDiffers K (x ∷ xs) (x ∷ ys) o
both_more K x xs ys None h = λ z. let e = h z in grind arith
both_more K x xs ys (Some w) h = ((λ e. h.0 (grind arith)), λ z d. let e = h.1 z d in grind arith)

-- it hangs on the bags alone
other_bags : (K : KindModel) (xs ys xs' ys' : List Placed) → SameBag xs' xs → SameBag ys' ys → (o : Option Placed) → LeastDiffers K xs' ys' o → LeastDiffers K xs ys o
other_bags K xs ys xs' ys' p q None h = λ x. sym (p x) ∙ h x ∙ q x
other_bags K xs ys xs' ys' p q (Some x) h = ((λ e. h.0 (p x ∙ e ∙ sym (q x))), λ y d. sym (p y) ∙ h.1 y d ∙ q y)

pub answer_bags : (xs ys xs' ys' : List Placed) → SameBag xs' xs → SameBag ys' ys → (o : Option Placed) → answer_of xs' ys' o ≡ answer_of xs ys o
answer_bags xs ys xs' ys' p q None = refl
answer_bags xs ys xs' ys' p q (Some x) = ap₂ (differs x) (p x) (q x)

module _ (K : KindModel) (order : OrderLaws K) where
  not_itself : (x : Placed) → LegalPlaced K order x → NotBefore K x x
  not_itself x l e = let s = self K order x l in let z : ◌≡◌ {A = ℕ} 0 1 = cc in omega arith

  -- the first of a list in order, where the other has nothing so small
  ahead : (x : Placed) (xs ys : List Placed) → LegalPlaced K order x → AllByRecursion (NotBefore K x) xs → ((y : Placed) → compare_placed K y x ≡ Less → count same_placed y ys ≡ 0) → count same_placed x ys ≡ 0
      → LeastDiffers K (x ∷ xs) ys (Some x)
  ahead x xs ys l h below none = (
    (λ e. let s = placed_equality.self x in grind arith),
    λ y d. absent (NotBefore K x) (x ∷ xs) (not_itself x l, h) y (λ n. n d) ∙ sym (below y d),
  )

  -- the other list begins behind x
  behind : (x y : Placed) (ys : List Placed) → LegalPlaced K order x → AllLegal K (y ∷ ys) → AllByRecursion (NotBefore K y) ys → compare_placed K x y ≡ Less → AllByRecursion (NotBefore K x) (y ∷ ys)
  behind x y ys l legal h c = (
    (λ d. let s = flipped K order x y l legal.0 in let z : ◌≡◌ {A = ℕ} 0 1 = cc in omega arith),
    All-weaker (λ w. LegalPlaced K order w × NotBefore K y w) (NotBefore K x) (λ w g d. g.1 (before K order w x y g.0 l legal.0 d c)) ys (all_both (LegalPlaced K order) (NotBefore K y) ys legal.1 h),
  )

  smaller : (x y : Placed) (xs ys : List Placed) → LegalPlaced K order x → AllLegal K (y ∷ ys) → AllByRecursion (NotBefore K x) xs → AllByRecursion (NotBefore K y) ys → compare_placed K x y ≡ Less
      → LeastDiffers K (x ∷ xs) (y ∷ ys) (Some x)
  smaller x y xs ys l legal h j c =
      ahead x xs (y ∷ ys) l h
      (λ z d. absent (NotBefore K x) (y ∷ ys) (behind x y ys l legal j c) z (λ n. n d))
      (absent (NotBefore K y) (y ∷ ys) (not_itself y legal.0, j) x (λ n. n c))

  parting_differs : (xs ys : List Placed) → AllLegal K xs → AllLegal K ys → Sorted K xs → Sorted K ys → LeastDiffers K xs ys (parting K xs ys)
  parting_differs [] [] a b s t = λ x. refl
  parting_differs [] (y ∷ ys) a b s t = exchanged K (y ∷ ys) [] (Some y) (ahead y ys [] b.0 t.0 (λ _ _. refl) refl)
  parting_differs (x ∷ xs) [] a b s t = ahead x xs [] a.0 s.0 (λ _ _. refl) refl
  parting_differs (x ∷ xs) (y ∷ ys) a b s t = go (parting_differs xs ys a.1 b.1 s.1 t.1) (compare_placed K x y) refl
    where
      go : LeastDiffers K xs ys (parting K xs ys) → (o : Ordering) → compare_placed K x y ≡ o → LeastDiffers K (x ∷ xs) (y ∷ ys) (lesser_of x y (parting K xs ys) o)
      go more Less c = smaller x y xs ys a.0 b s.0 t.0 c
      go more Equal c = subst (λ z. LeastDiffers K (x ∷ xs) (z ∷ ys) (parting K xs ys)) (equal K order x y a.0 b.0 c) (both_more K x xs ys (parting K xs ys) more)
      go more Greater c = exchanged K (y ∷ ys) (x ∷ xs) (Some y) (smaller y x ys xs b.0 a t.0 s.0 (flipped K order x y a.0 b.0 ∙ ap opposite c))

  module _ (xs ys : List Placed) (a : AllLegal K xs) (b : AllLegal K ys) where
    all_legal : AllLegal K (xs ++ ys)
    all_legal = All-append (LegalPlaced K order) xs ys a b

    legal : (x : Placed) → (count same_placed x xs ≡ count same_placed x ys → ⊥) → LegalPlaced K order x
    legal x ne = all_count (LegalPlaced K order) (xs ++ ys) all_legal x (occurs xs ys x ne)

    least_differs : (o : Option Placed) → Least K order (counts_differ xs ys) (xs ++ ys) o → LeastDiffers K xs ys o
    least_differs None h = none_differs xs ys h
    least_differs (Some x) h = (
      eqb-false (count same_placed x xs) (count same_placed x ys) (not-true _ h.0),
      λ y d. elim (cases_eq (count same_placed y xs) (count same_placed y ys)) [
        | inl q ↦ q
        | inr ne ↦ absurd (all_count (λ z. counts_differ xs ys z ≡ true → NotBefore K x z) (xs ++ ys) h.2 y (occurs xs ys y ne) (ap not (ne_eqb _ _ ne)) d)
      ],
    )

    one : (o u : Option Placed) → LeastDiffers K xs ys o → LeastDiffers K xs ys u → o ≡ u
    one None None p q = refl
    one None (Some y) p q = absurd (q.0 (p y))
    one (Some x) None p q = absurd (p.0 (q x))
    one (Some x) (Some y) p q = go (compare_placed K x y) refl
      where
        go : (o : Ordering) → compare_placed K x y ≡ o → ◌≡◌ {A = Option Placed} (Some x) (Some y)
        go Less c = absurd (p.0 (q.1 x c))
        go Equal c = ap Some (equal K order x y (legal x p.0) (legal y q.0) c)
        go Greater c = absurd (q.0 (p.1 y (flipped K order x y (legal x p.0) (legal y q.0) ∙ ap opposite c)))

  -- what parts the two lists put in order is the least whose counts differ in the lists themselves
  pub parting_least : (xs ys xs' ys' : List Placed) → InOrder K xs' → InOrder K ys' → SameBag xs' xs → SameBag ys' ys → parting K xs' ys' ≡ least K (counts_differ xs ys) (xs ++ ys)
  parting_least xs ys xs' ys' x y p q =
      let a = all_bag (LegalPlaced K order) xs' xs p x.legal in
      let b = all_bag (LegalPlaced K order) ys' ys q y.legal in
      one xs ys a b (parting K xs' ys') (least K (counts_differ xs ys) (xs ++ ys))
      (other_bags K xs ys xs' ys' p q (parting K xs' ys') (parting_differs xs' ys' x.legal y.legal x.sorted y.sorted))
      (least_differs xs ys a b _ (least_is K order (counts_differ xs ys) (xs ++ ys) (all_legal xs ys a b)))

  pub parting_answer : (xs ys xs' ys' : List Placed) → InOrder K xs' → InOrder K ys' → SameBag xs' xs → SameBag ys' ys → answer_of xs' ys' (parting K xs' ys') ≡ bag_answer K xs ys
  parting_answer xs ys xs' ys' x y p q = answer_bags xs ys xs' ys' p q (parting K xs' ys') ∙ ap (answer_of xs ys) (parting_least xs ys xs' ys' x y p q)
