-- Comparing two scores answers what it should, and no other answer would do.
use Rattle.std.proofs.Common.{◌≡◌, ℕ, Bool, true, false, cond, not, eqb, List, [], ◌∷◌, ◌++◌, Some, None, Option, Ordering, Less, Equal, Greater, sym, refl, ap, ◌∙◌, subst, ap₂, inl, inr, arith}
use Rattle.std.specs.Ordering.{is_lt}
use Rattle.std.specs.List.{AllByRecursion}
use Rattle.std.proofs.ByRecursion.{All-append, All-weaker}
use Rattle.std.proofs.lemmas.Bool.{cond_both, cases_eq, eqb-true, eqb-false, ne_eqb, not-true}
use Rattle.algebra.specs.Bag.{count}
use Rattle.algebra.specs.Kind.{KindModel, OrderLaws, opposite}
use Rattle.algebra.specs.Score.{Score, score_length, Legal, Placed, placed, same_placed}
use Rattle.algebra.specs.Compare.{Answer, Answer.same, Answer.lengths, Answer.differs, compare_placed, Says, lesser, least, counts_differ, answer_of, compared}
use Rattle.algebra.specs.Theorems.{CompareSays}
use Rattle.algebra.proofs.Orders.{first_equal, first_opposite, first_before}
use Rattle.algebra.proofs.Differing.{all_count, occurs, none_differs}
use Rattle.algebra.proofs.Sounds.{legal_placed, all_both}

apart : Equal ≡ Less → ⊥
apart e = let z : ◌≡◌ {A = ℕ} 0 1 = cc in omega arith

module _ (K : KindModel) (order : OrderLaws K) where
  abbrev pub LegalPlaced : Placed → Type 0
  LegalPlaced x = K.legal x.what ≡ true

  -- the order of placed primitives
  pub self : (x : Placed) → LegalPlaced x → compare_placed K x x ≡ Equal
  self x l = let e = order.compare_self x.what l in grind arith

  pub equal : (x y : Placed) → LegalPlaced x → LegalPlaced y → compare_placed K x y ≡ Equal → x ≡ y
  equal x y l m e =
      let both = first_equal x.onset y.onset _ e in
      λ i. record { onset = both.0 i; what = order.compare_same x.what y.what l m both.1 i }

  pub flipped : (x y : Placed) → LegalPlaced x → LegalPlaced y → compare_placed K y x ≡ opposite (compare_placed K x y)
  flipped x y l m = first_opposite x.onset y.onset _ _ (order.compare_opposite x.what y.what l m)

  pub before : (x y z : Placed) → LegalPlaced x → LegalPlaced y → LegalPlaced z → compare_placed K x y ≡ Less → compare_placed K y z ≡ Less → compare_placed K x z ≡ Less
  before x y z l m n = first_before x.onset y.onset _ z.onset _ _ (order.compare_before x.what y.what z.what l m n)

  module _ (f : Placed → Bool) where
    abbrev pub NotBefore : Placed → Placed → Type 0
    NotBefore x z = f z ≡ true → compare_placed K z x ≡ Less → ⊥

    abbrev pub Least : List Placed → Option Placed → Type 0
    Least zs None = AllByRecursion (λ z. f z ≡ false) zs
    Least zs (Some x) = (f x ≡ true) × LegalPlaced x × AllByRecursion (NotBefore x) zs

    fails : (z : Placed) → f z ≡ false → f z ≡ true → ⊥
    fails z e d = let n : ◌≡◌ {A = ℕ} 0 1 = cc in omega arith

    pub lesser_is : (z y : Placed) (zs : List Placed) → LegalPlaced z → f z ≡ true → AllByRecursion LegalPlaced zs → Least zs (Some y) → (o : Ordering) → compare_placed K y z ≡ o → Least (z ∷ zs) (Some (cond (is_lt o) y z))
    lesser_is z y zs l e legal h Less c = (h.0, h.1, ((λ _ d. apart (let g = flipped y z h.1 l ∙ ap opposite c in cc)), h.2))
    lesser_is z y zs l e legal h Equal c =
        (e, l, ((λ _ d. apart (sym (self z l) ∙ d)), subst (λ x. AllByRecursion (NotBefore x) zs) (equal y z h.1 l c) h.2))
    lesser_is z y zs l e legal h Greater c = (
      e,
      l,
      (
        (λ _ d. apart (sym (self z l) ∙ d)),
        All-weaker (λ w. LegalPlaced w × NotBefore y w) (NotBefore z) (λ w g t d. g.1 t (before w z y g.0 l h.1 d (flipped y z h.1 l ∙ ap opposite c))) zs (all_both LegalPlaced (NotBefore y) zs legal h.2),
      ),
    )

    pub least_is : (zs : List Placed) → AllByRecursion LegalPlaced zs → Least zs (least K f zs)
    least_is [] legal = tt
    least_is (z ∷ zs) legal = go (f z) refl (least K f zs) (least_is zs legal.1)
      where
        go : (b : Bool) → f z ≡ b → (o : Option Placed) → Least zs o → Least (z ∷ zs) (cond b (Some (lesser K z o)) o)
        go false e None h = (e, h)
        go false e (Some x) h = (h.0, h.1, ((λ t. absurd (fails z e t)), h.2))
        go true e None h = (e, legal.0, ((λ _ d. apart (sym (self z legal.0) ∙ d)), All-weaker (λ w. f w ≡ false) (NotBefore z) (λ w g t. absurd (fails w g t)) zs h))
        go true e (Some y) h = lesser_is z y zs legal.0 e legal.1 h (compare_placed K y z) refl

  module _ (s t : Score) (l : Legal K s) (m : Legal K t) where
    abbrev in_s : Placed → ℕ
    in_s x = count same_placed x (placed K s)

    abbrev in_t : Placed → ℕ
    in_t x = count same_placed x (placed K t)

    all_legal : AllByRecursion LegalPlaced (placed K s ++ placed K t)
    all_legal = All-append LegalPlaced (placed K s) (placed K t) (legal_placed K s l) (legal_placed K t m)

    legal : (x : Placed) → (in_s x ≡ in_t x → ⊥) → LegalPlaced x
    legal x ne = all_count LegalPlaced (placed K s ++ placed K t) all_legal x (occurs (placed K s) (placed K t) x ne)

    answer_says : score_length K s ≡ score_length K t → (o : Option Placed) → Least (counts_differ (placed K s) (placed K t)) (placed K s ++ placed K t) o → Says K s t (answer_of (placed K s) (placed K t) o)
    answer_says e None h = (e, none_differs (placed K s) (placed K t) h)
    answer_says e (Some x) h = (
      e,
      refl,
      refl,
      eqb-false (in_s x) (in_t x) (not-true _ h.0),
      λ y d. elim (cases_eq (in_s y) (in_t y)) [
        | inl q ↦ q
        | inr ne ↦ absurd (all_count (NotBefore (counts_differ (placed K s) (placed K t)) x) (placed K s ++ placed K t) h.2 y (occurs (placed K s) (placed K t) y ne) (ap not (ne_eqb (in_s y) (in_t y) ne)) d)
      ],
    )

    compared_says : Says K s t (compared K s t)
    compared_says =
        cond_both (eqb (score_length K s) (score_length K t)) (answer_of (placed K s) (placed K t) (least K (counts_differ (placed K s) (placed K t)) (placed K s ++ placed K t))) (lengths (score_length K s) (score_length K t)) (Says K s t)
        (λ e. answer_says (eqb-true (score_length K s) (score_length K t) e) _ (least_is (counts_differ (placed K s) (placed K t)) (placed K s ++ placed K t) all_legal))
        (λ e. (refl, refl, eqb-false (score_length K s) (score_length K t) e))

    one_answer : (a b : Answer) → Says K s t a → Says K s t b → a ≡ b
    one_answer same same p q = refl
    one_answer same (lengths i j) p q = absurd (q.2 (omega (arith, p.0, q.0, q.1)))
    one_answer same (differs x i j) p q = absurd (q.3 (omega (arith, p.1 x, q.1, q.2)))
    one_answer (lengths i j) same p q = absurd (p.2 (omega (arith, q.0, p.0, p.1)))
    one_answer (lengths i j) (lengths i' j') p q = ap₂ lengths (sym p.0 ∙ q.0) (sym p.1 ∙ q.1)
    one_answer (lengths i j) (differs x i' j') p q = absurd (p.2 (omega (arith, q.0, p.0, p.1)))
    one_answer (differs x i j) same p q = absurd (p.3 (omega (arith, q.1 x, p.1, p.2)))
    one_answer (differs x i j) (lengths i' j') p q = absurd (q.2 (omega (arith, p.0, q.0, q.1)))
    one_answer (differs x i j) (differs y i' j') p q = go (compare_placed K x y) refl
      where
        x_legal : LegalPlaced x
        x_legal = legal x (λ e. p.3 (sym p.1 ∙ e ∙ p.2))

        y_legal : LegalPlaced y
        y_legal = legal y (λ e. q.3 (sym q.1 ∙ e ∙ q.2))

        go : (o : Ordering) → compare_placed K x y ≡ o → differs x i j ≡ differs y i' j'
        go Less c = absurd (p.3 (sym p.1 ∙ q.4 x c ∙ p.2))
        go Equal c = let e = equal x y x_legal y_legal c in cc (p.1, p.2, q.1, q.2)
        go Greater c = absurd (q.3 (sym q.1 ∙ p.4 y (flipped x y x_legal y_legal ∙ ap opposite c) ∙ q.2))

pub compare_says : CompareSays
compare_says K order s t l m a =
    let says = compared_says K order s t l m in
    ((λ h. one_answer K order s t l m a (compared K s t) h says), λ e. subst (Says K s t) (sym e) says)
