-- Partners among the lines of two scores of one length are partners among their placed primitives.
use Rattle.std.proofs.Common.{◌≡◌, ℕ, suc, Bool, true, false, cond, ◌&&◌, eqb, ltb, List, [], ◌∷◌, ◌++◌, map, sym, refl, ap, ◌∙◌, ap₂, arith}
use Rattle.algebra.specs.Bag.{count, has_partner, partnered, unpartnered, ordered_after}
use Rattle.algebra.specs.Kind.{KindModel}
use Rattle.algebra.specs.Score.{score_length, Placed, placed, same_placed}
use Rattle.algebra.specs.Normal.{line, lines, same_line}
use Rattle.algebra.specs.Theorems.{AfterByPlaced, AfterOtherLength}
use Rattle.algebra.proofs.Bags.{map_append}
use Rattle.algebra.proofs.Complete.{placed_equality}
use Rattle.std.specs.List.{AllByRecursion}
use Rattle.std.proofs.lemmas.Bool.{eq-eqb, ne_eqb, le-ltb}
use Rattle.algebra.proofs.Lines.{Ends, ends_placed}

-- a function that keeps apart what a test tells apart, and together what it does not
module _ {X Y : Type 0} (same-x : X → X → Bool) (same-y : Y → Y → Bool) (f : X → Y) (keeps : (x z : X) → same-y (f x) (f z) ≡ same-x x z) where
  count_map : (x : X) (xs : List X) → count same-y (f x) (map f xs) ≡ count same-x x xs
  count_map x [] = refl
  count_map x (z ∷ xs) = ap₂ (λ b n. cond b (suc n) n) (keeps x z) (count_map x xs)

  partner_map : (other before : List X) (x : X) → has_partner same-y (map f other) (map f before) (f x) ≡ has_partner same-x other before x
  partner_map other before x = ap₂ ltb (count_map x before) (count_map x other)

  pick : (b : Bool) (x : X) (more : List X) → cond b (f x ∷ map f more) (map f more) ≡ map f (cond b (x ∷ more) more)
  pick true x more = refl
  pick false x more = refl

  pick' : (b : Bool) (x : X) (more : List X) → cond b (map f more) (f x ∷ map f more) ≡ map f (cond b more (x ∷ more))
  pick' true x more = refl
  pick' false x more = refl

  partnered_map : (other before xs : List X) → partnered same-y (map f other) (map f before) (map f xs) ≡ map f (partnered same-x other before xs)
  partnered_map other before [] = refl
  partnered_map other before (x ∷ xs) =
      ap₂ (λ b more. cond b (f x ∷ more) more) (partner_map other before x) (partnered_map other (x ∷ before) xs)
      ∙ pick (has_partner same-x other before x) x (partnered same-x other (x ∷ before) xs)

  unpartnered_map : (other before xs : List X) → unpartnered same-y (map f other) (map f before) (map f xs) ≡ map f (unpartnered same-x other before xs)
  unpartnered_map other before [] = refl
  unpartnered_map other before (x ∷ xs) =
      ap₂ (λ b more. cond b more (f x ∷ more)) (partner_map other before x) (unpartnered_map other (x ∷ before) xs)
      ∙ pick' (has_partner same-x other before x) x (unpartnered same-x other (x ∷ before) xs)

  pub ordered_map : (xs model : List X) → ordered_after same-y (map f xs) (map f model) ≡ map f (ordered_after same-x xs model)
  ordered_map xs model =
      ap₂ (λ u v. u ++ v) (partnered_map xs [] model) (unpartnered_map model [] xs)
      ∙ sym (map_append f (partnered same-x xs [] model) (unpartnered same-x model [] xs))

line_same : (K : KindModel) (n : ℕ) (x y : Placed) → same_line (line K n x) (line K n y) ≡ same_placed x y
line_same K n x y = go (same_placed x y) refl
  where
    go : (b : Bool) → same_placed x y ≡ b → b && eqb (line K n x).after (line K n y).after ≡ b
    go true e = eq-eqb _ _ (ap (λ z. (line K n z).after) (placed_equality.sound x y e))
    go false e = refl

pub after_by_placed : AfterByPlaced
after_by_placed K s model e =
    ap (λ n. ordered_after same_line (lines K s) (map (line K n) (placed K model))) (sym e)
    ∙ ordered_map same_placed same_line (line K (score_length K s)) (line_same K (score_length K s)) (placed K s) (placed K model)

-- where nothing of one list occurs in the other
module _ {X : Type 0} (same : X → X → Bool) where
  absent_none : (other before xs : List X) → AllByRecursion (λ x. count same x other ≡ 0) xs → partnered same other before xs ≡ []
  absent_none other before [] h = refl
  absent_none other before (x ∷ xs) h = rw (le-ltb (count same x before) (count same x other) (omega (arith, h.0))) (absent_none other (x ∷ before) xs h.1)

  pub absent_all : (other before xs : List X) → AllByRecursion (λ x. count same x other ≡ 0) xs → unpartnered same other before xs ≡ xs
  absent_all other before [] h = refl
  absent_all other before (x ∷ xs) h = rw (le-ltb (count same x before) (count same x other) (omega (arith, h.0))) (ap (λ ys. x ∷ ys) (absent_all other (x ∷ before) xs h.1))

module _ (K : KindModel) (m n : ℕ) (apart : m ≡ n → ⊥) where
  line_apart : (x y : Placed) → Ends K m x → Ends K n y → same_line (line K m x) (line K n y) ≡ false
  line_apart x y p q = go (same_placed x y) refl
    where
      go : (b : Bool) → same_placed x y ≡ b → b && eqb (line K m x).after (line K n y).after ≡ false
      go false e = refl
      go true e =
          let same = placed_equality.sound x y e in
          let o : x.onset ≡ y.onset = ap (λ z. z.onset) same in
          let l : K.length_of x.what ≡ K.length_of y.what = ap (λ z. K.length_of z.what) same in
          ne_eqb _ _ (λ d. apart (omega arith))

  line_absent : (x : Placed) (ys : List Placed) → Ends K m x → AllByRecursion (Ends K n) ys → count same_line (line K m x) (map (line K n) ys) ≡ 0
  line_absent x [] p h = refl
  line_absent x (y ∷ ys) p h = rw (line_apart x y p h.0) (line_absent x ys p h.1)

  lines_absent : (xs ys : List Placed) → AllByRecursion (Ends K m) xs → AllByRecursion (Ends K n) ys → AllByRecursion (λ l. count same_line l (map (line K n) ys) ≡ 0) (map (line K m) xs)
  lines_absent [] ys h k = tt
  lines_absent (x ∷ xs) ys h k = (line_absent x ys h.0 k, lines_absent xs ys h.1 k)

pub after_other_length : AfterOtherLength
after_other_length K s model apart =
    ap₂ (λ u v. u ++ v)
    (absent_none same_line (lines K s) [] (lines K model) (lines_absent K (score_length K model) (score_length K s) (λ e. apart (sym e)) (placed K model) (placed K s) (ends_placed K model) (ends_placed K s)))
    (absent_all same_line (lines K model) [] (lines K s) (lines_absent K (score_length K s) (score_length K model) apart (placed K s) (placed K model) (ends_placed K s) (ends_placed K model)))
