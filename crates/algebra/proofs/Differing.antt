-- Which placed primitives of two lists differ in their counts, and that comparing says same exactly where none does.
use Rattle.std.proofs.Common.{◌≡◌, ℕ, ◌<◌, Bool, true, false, cond, not, eqb, List, [], ◌∷◌, ◌++◌, Some, None, Option, sym, refl, ap, subst, inl, inr, arith}
use Rattle.std.specs.List.{AllByRecursion}
use Rattle.std.proofs.lemmas.Bool.{cond_both, cases_eq, eqb-true, eq-eqb, not-false}
use Rattle.algebra.specs.Bag.{count}
use Rattle.algebra.specs.Kind.{KindModel}
use Rattle.algebra.specs.Score.{Score, score_length, Placed, placed, same_placed}
use Rattle.algebra.specs.Rules.{Chain}
use Rattle.algebra.specs.Compare.{Answer.same, Answer.lengths, lesser, least, counts_differ, answer_of, compared}
use Rattle.algebra.specs.Meaning.{SameBag}
use Rattle.algebra.specs.Theorems.{CompareSame}
use Rattle.algebra.proofs.Partners.{count_append}
use Rattle.algebra.proofs.Complete.{placed_equality, sound_and_complete}

-- what holds of all holds of each that occurs
pub all_count : (P : Placed → Type 0) (xs : List Placed) → AllByRecursion P xs → (y : Placed) → 0 < count same_placed y xs → P y
all_count P [] h y c = absurd (omega arith)
all_count P (x ∷ xs) h y c = go (same_placed y x) refl (all_count P xs h.1 y)
  where
    go : (b : Bool) → same_placed y x ≡ b → (0 < count same_placed y xs → P y) → P y
    go true e known = subst P (sym (placed_equality.sound y x e)) h.0
    go false e known = known (rw e at c)

module _ (xs ys : List Placed) where
  -- a placed primitive whose counts differ occurs in one of the two
  pub occurs : (x : Placed) → (count same_placed x xs ≡ count same_placed x ys → ⊥) → 0 < count same_placed x (xs ++ ys)
  occurs x ne = omega (arith, count_append placed_equality x xs ys)

  -- where no count differs the bags are equal
  pub none_differs : AllByRecursion (λ x. counts_differ xs ys x ≡ false) (xs ++ ys) → SameBag xs ys
  none_differs h x = elim (cases_eq (count same_placed x xs) (count same_placed x ys)) [
    | inl e ↦ e
    | inr ne ↦ eqb-true (count same_placed x xs) (count same_placed x ys) (not-false _ (all_count (λ z. counts_differ xs ys z ≡ false) (xs ++ ys) h x (occurs x ne)))
  ]

-- nothing is least exactly where nothing passes the test
module _ (K : KindModel) (f : Placed → Bool) where
  none_least : (zs : List Placed) → least K f zs ≡ None → AllByRecursion (λ z. f z ≡ false) zs
  none_least [] e = tt
  none_least (z ∷ zs) e = go (f z) refl e (none_least zs)
    where
      go : (b : Bool) → f z ≡ b → cond b (Some (lesser K z (least K f zs))) (least K f zs) ≡ None → (least K f zs ≡ None → AllByRecursion (λ z. f z ≡ false) zs) → AllByRecursion (λ z. f z ≡ false) (z ∷ zs)
      go true d e known = let n : ◌≡◌ {A = ℕ} 0 1 = cc in absurd (omega arith)
      go false d e known = (d, known e)

  least_none : (zs : List Placed) → ((z : Placed) → f z ≡ false) → least K f zs ≡ None
  least_none [] h = refl
  least_none (z ∷ zs) h = rw (h z) (least_none zs h)

module _ (K : KindModel) (s t : Score) where
  abbrev found : Option Placed
  found = least K (counts_differ (placed K s) (placed K t)) (placed K s ++ placed K t)

  answer_none : (o : Option Placed) → answer_of (placed K s) (placed K t) o ≡ same → o ≡ None
  answer_none None e = refl
  answer_none (Some x) e = let z : ◌≡◌ {A = ℕ} 0 1 = cc in absurd (omega arith)

  same_chain : compared K s t ≡ same → Chain K s t
  same_chain =
      cond_both (eqb (score_length K s) (score_length K t)) (answer_of (placed K s) (placed K t) found) (lengths (score_length K s) (score_length K t)) (λ a. a ≡ same → Chain K s t)
      (λ l e. (sound_and_complete K s t).1 (eqb-true (score_length K s) (score_length K t) l, none_differs (placed K s) (placed K t) (none_least K _ (placed K s ++ placed K t) (answer_none found e))))
      (λ _ e. let z : ◌≡◌ {A = ℕ} 0 1 = cc in absurd (omega arith))

  chain_same : Chain K s t → compared K s t ≡ same
  chain_same c =
      let means = (sound_and_complete K s t).0 c in
      let none : found ≡ None = least_none K (counts_differ (placed K s) (placed K t)) (placed K s ++ placed K t) (λ z. ap not (eq-eqb (count same_placed z (placed K s)) (count same_placed z (placed K t)) (means.1 z))) in
      rw (eq-eqb (score_length K s) (score_length K t) means.0, none)

pub compare_same : CompareSame
compare_same K s t = (same_chain K s t, chain_same K s t)
