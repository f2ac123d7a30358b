-- A list in the order of a model is a permutation of the list, and is the model where every count agrees.
use Rattle.std.proofs.Common.{◌≡◌, ◌+◌, ◌-◌, ◌≤◌, min, Bool, true, false, List, [], ◌∷◌, ◌++◌, sym, refl, ap, ◌∙◌, ap₂, append-nil, arith}
use mathlib.Core.List.{Permᴰ as Permutation}
use Rattle.std.proofs.lemmas.Bool.{lt-ltb}
use Rattle.algebra.specs.Bag.{count, has_partner, partnered, unpartnered, ordered_after}
use Rattle.algebra.proofs.Bags.{Equality, count_self, permuted_from_counts}

module _ {X : Type 0} {same : X → X → Bool} (eq : Equality same) where
  pub count_append : (x : X) (xs ys : List X) → count same x (xs ++ ys) ≡ count same x xs + count same x ys
  count_append x [] ys = omega arith
  count_append x (y ∷ xs) ys = let known = count_append x xs ys in grind arith

  count_split : (x : X) (other before xs : List X) → count same x (partnered same other before xs) + count same x (unpartnered same other before xs) ≡ count same x xs
  count_split x other before [] = omega arith
  count_split x other before (y ∷ xs) = let known = count_split x other (y ∷ before) xs in grind arith

  -- the occurrences of x from `before` on, up to those that the other has
  count_partnered : (x : X) (other before xs : List X) → count same x (partnered same other before xs) ≡ min (count same x before + count same x xs) (count same x other) - count same x before
  count_partnered x other before [] = omega arith
  count_partnered x other before (y ∷ xs) = go (same x y) refl (count_partnered x other (y ∷ before) xs)
    where
      more : List X
      more = partnered same other (y ∷ before) xs

      go :
          (b : Bool) → same x y ≡ b →
          count same x more ≡ min (count same x (y ∷ before) + count same x xs) (count same x other) - count same x (y ∷ before) →
          count same x (partnered same other before (y ∷ xs)) ≡ min (count same x before + count same x (y ∷ xs)) (count same x other) - count same x before
      go true e known =
          let had = ap (λ z. count same z before) (eq.sound x y e) in
          let has = ap (λ z. count same z other) (eq.sound x y e) in
          grind arith
      go false e known = grind arith

  pub ordered_permuted : (xs model : List X) → Permutation xs (ordered_after same xs model)
  ordered_permuted xs model =
      let same_count = λ (x : X). let e : count same x (ordered_after same xs model) ≡ count same x xs = omega (
        arith,
        count_append x (partnered same xs [] model) (unpartnered same model [] xs),
        count_partnered x xs [] model,
        count_partnered x model [] xs,
        count_split x model [] xs,
      ) in sym e in
      permuted_from_counts eq xs (ordered_after same xs model) same_count

  -- every occurrence has a partner
  Covered : List X → List X → List X → Type 0
  Covered other before xs = (x : X) → count same x before + count same x xs ≤ count same x other

  covered_next : (y : X) (other before xs : List X) → Covered other before (y ∷ xs) → Covered other (y ∷ before) xs
  unfolding Covered
  covered_next y other before xs h x = let hx = h x in grind arith

  covered_first : (y : X) (other before xs : List X) → Covered other before (y ∷ xs) → has_partner same other before y ≡ true
  unfolding Covered
  covered_first y other before xs h = lt-ltb (count same y before) (count same y other) (omega (arith, h y, count_self eq y xs))

  partnered_all : (other before xs : List X) → Covered other before xs → partnered same other before xs ≡ xs
  partnered_all other before [] h = refl
  partnered_all other before (y ∷ xs) h = rw (covered_first y other before xs h) (ap (λ zs. y ∷ zs) (partnered_all other (y ∷ before) xs (covered_next y other before xs h)))

  unpartnered_none : (other before xs : List X) → Covered other before xs → unpartnered same other before xs ≡ []
  unpartnered_none other before [] h = refl
  unpartnered_none other before (y ∷ xs) h = rw (covered_first y other before xs h) (unpartnered_none other (y ∷ before) xs (covered_next y other before xs h))

  pub ordered_same : (xs model : List X) → ((x : X) → count same x xs ≡ count same x model) → ordered_after same xs model ≡ model
  unfolding Covered
  ordered_same xs model e =
      ap₂ (λ ys zs. ys ++ zs) (partnered_all xs [] model (λ x. omega (arith, e x))) (unpartnered_none model [] xs (λ x. omega (arith, e x)))
      ∙ append-nil model
