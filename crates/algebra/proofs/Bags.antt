-- Two lists are permutations of one another exactly where every count agrees.
use Rattle.std.proofs.Common.{◌≡◌, ℕ, suc, ◌<◌, Bool, true, false, cond, List, [], ◌∷◌, ◌++◌, map, sym, refl, ap, ◌∙◌, subst, ap₂, append_assoc, arith}
use mathlib.Core.List.Permᴰ.{append_left as permuted-append-left}
use mathlib.Core.List.Permᴰ.{append-nil as permuted-append-nil}
use mathlib.Core.List.Permᴰ.{append_right as permuted-append-right}
use mathlib.Core.List.Permᴰ.{cons as permuted-cons}
use mathlib.Core.List.Permᴰ.{middle as permuted-middle}
use mathlib.Core.List.Permᴰ.{nil as permuted-nil}
use mathlib.Core.List.Permᴰ.{refl as permuted-refl}
use mathlib.Core.List.Permᴰ.{swap as permuted-swap}
use mathlib.Core.List.Permᴰ.{symm as permuted-sym}
use mathlib.Core.List.Permᴰ.{trans as permuted-trans}
use mathlib.Core.List.{Permᴰ as Permutation}
use Rattle.std.specs.List.{AllByRecursion}
use Rattle.algebra.specs.Bag.{count, flat_map}

pub map_append : {X Y : Type 0} (f : X → Y) (xs ys : List X) → map f (xs ++ ys) ≡ map f xs ++ map f ys
map_append f [] ys = refl
map_append f (x ∷ xs) ys = ap (λ zs. f x ∷ zs) (map_append f xs ys)

pub map_same : {X Y : Type 0} (f g : X → Y) (xs : List X) → AllByRecursion (λ x. f x ≡ g x) xs → map f xs ≡ map g xs
map_same f g [] h = refl
map_same f g (x ∷ xs) h = ap₂ (λ y ys. y ∷ ys) h.0 (map_same f g xs h.1)

pub map_map : {X Y Z : Type 0} (g : Y → Z) (f : X → Y) (xs : List X) → map g (map f xs) ≡ map (λ x. g (f x)) xs
map_map g f [] = refl
map_map g f (x ∷ xs) = ap (λ zs. g (f x) ∷ zs) (map_map g f xs)

pub map_id : {X : Type 0} (xs : List X) → map (λ x. x) xs ≡ xs
map_id [] = refl
map_id (x ∷ xs) = ap (λ zs. x ∷ zs) (map_id xs)

pub flat_map_append : {X Y : Type 0} (f : X → List Y) (xs ys : List X) → flat_map f (xs ++ ys) ≡ flat_map f xs ++ flat_map f ys
flat_map_append f [] ys = refl
flat_map_append f (x ∷ xs) ys = ap (λ zs. f x ++ zs) (flat_map_append f xs ys) ∙ sym (append_assoc (f x) (flat_map f xs) (flat_map f ys))

pub flat_map_map : {X Y Z : Type 0} (f : Y → List Z) (g : X → Y) (xs : List X) → flat_map f (map g xs) ≡ flat_map (λ x. f (g x)) xs
flat_map_map f g [] = refl
flat_map_map f g (x ∷ xs) = ap (λ zs. f (g x) ++ zs) (flat_map_map f g xs)

pub flat_map_same : {X Y : Type 0} (f g : X → List Y) (xs : List X) → AllByRecursion (λ x. f x ≡ g x) xs → flat_map f xs ≡ flat_map g xs
flat_map_same f g [] h = refl
flat_map_same f g (x ∷ xs) h = ap₂ (λ ys zs. ys ++ zs) h.0 (flat_map_same f g xs h.1)

-- one thing for each, or none for each
pub flat_map_one : {X Y : Type 0} (f : X → List Y) (g : X → Y) (xs : List X) → AllByRecursion (λ x. f x ≡ g x ∷ []) xs → flat_map f xs ≡ map g xs
flat_map_one f g [] h = refl
flat_map_one f g (x ∷ xs) h = ap₂ (λ ys zs. ys ++ zs) h.0 (flat_map_one f g xs h.1)

pub flat_map_none : {X Y : Type 0} (f : X → List Y) (xs : List X) → AllByRecursion (λ x. f x ≡ []) xs → flat_map f xs ≡ []
flat_map_none f [] h = refl
flat_map_none f (x ∷ xs) h = ap₂ (λ ys zs. ys ++ zs) h.0 (flat_map_none f xs h.1)

pub map_flat_map : {X Y Z : Type 0} (g : Y → Z) (f : X → List Y) (xs : List X) → map g (flat_map f xs) ≡ flat_map (λ x. map g (f x)) xs
map_flat_map g f [] = refl
map_flat_map g f (x ∷ xs) = map_append g (f x) (flat_map f xs) ∙ ap (λ zs. map g (f x) ++ zs) (map_flat_map g f xs)

module _ {X : Type 0} where
  pub permuted_equal : {xs ys : List X} → xs ≡ ys → Permutation xs ys
  permuted_equal {xs} e = subst (λ zs. Permutation xs zs) e (permuted-refl xs)

  pub permuted_append : {ps qs xs ys : List X} → Permutation ps qs → Permutation xs ys → Permutation (ps ++ xs) (qs ++ ys)
  permuted_append {qs = qs} {xs = xs} p q = permuted-trans (permuted-append-right xs p) (permuted-append-left qs q)

  pub permuted_append_exchanged : (xs ys : List X) → Permutation (xs ++ ys) (ys ++ xs)
  permuted_append_exchanged [] ys = permuted-sym (permuted-append-nil ys)
  permuted_append_exchanged (x ∷ xs) ys = permuted-trans (permuted-cons refl (permuted_append_exchanged xs ys)) (permuted-sym (permuted-middle x ys xs))

  pub permuted_exchange : (ps qs rs ts : List X) → Permutation ((ps ++ qs) ++ (rs ++ ts)) ((ps ++ rs) ++ (qs ++ ts))
  permuted_exchange ps qs rs ts =
      let inner : Permutation (qs ++ (rs ++ ts)) (rs ++ (qs ++ ts)) = simp (← append_assoc) (permuted-append-right ts (permuted_append_exchanged qs rs)) in
      simp append_assoc (permuted-append-left ps inner)

  pub permuted_map : {Y : Type 0} (f : X → Y) {xs ys : List X} → Permutation xs ys → Permutation (map f xs) (map f ys)
  permuted_map f permuted-nil = permuted-nil
  permuted_map f (permuted-cons e p) = permuted-cons (ap f e) (permuted_map f p)
  permuted_map f (permuted-swap e d) = permuted-swap (ap f e) (ap f d)
  permuted_map f (permuted-trans p q) = permuted-trans (permuted_map f p) (permuted_map f q)

pub permuted_flat_map : {X Y : Type 0} (f : X → List Y) {xs ys : List X} → Permutation xs ys → Permutation (flat_map f xs) (flat_map f ys)
permuted_flat_map f permuted-nil = permuted-nil
permuted_flat_map f (permuted-cons e p) = permuted_append (permuted_equal (ap f e)) (permuted_flat_map f p)
permuted_flat_map f (permuted-swap {a = a} {b = b} {l = l} e d) =
    simp (← append_assoc) (permuted-append-right (flat_map f l) (permuted-trans (permuted_append_exchanged (f a) (f b)) (permuted_append (permuted_equal (ap f d)) (permuted_equal (ap f e)))))
permuted_flat_map f (permuted-trans p q) = permuted-trans (permuted_flat_map f p) (permuted_flat_map f q)

-- A test that tells equal things.
pub record Equality {X : Type 0} (same : X → X → Bool) : Type 0 where
  pub sound : (x y : X) → same x y ≡ true → x ≡ y
  pub self : (x : X) → same x x ≡ true

module _ {X : Type 0} {same : X → X → Bool} (eq : Equality same) where
  pub permuted_count : (x : X) {xs ys : List X} → Permutation xs ys → count same x xs ≡ count same x ys
  permuted_count x permuted-nil = refl
  permuted_count x (permuted-cons e p) = cc (permuted_count x p)
  permuted_count x (permuted-swap {a = a} {b = b} e d) = swapped (same x a) (same x b) (ap (same x) e) (ap (same x) d) _
    where
      swapped : (s t : Bool) {s' t' : Bool} → s ≡ t' → t ≡ s' → (n : ℕ) → cond s (suc (cond t (suc n) n)) (cond t (suc n) n) ≡ cond s' (suc (cond t' (suc n) n)) (cond t' (suc n) n)
      swapped s t e d n = grind arith
  permuted_count x (permuted-trans p q) = permuted_count x p ∙ permuted_count x q

  pub count_self : (x : X) (xs : List X) → count same x (x ∷ xs) ≡ suc (count same x xs)
  count_self x xs = rw (eq.self x)

  extract : (x : X) (ys : List X) → 0 < count same x ys → (zs : List X) × Permutation ys (x ∷ zs)
  extract x [] h = absurd (omega arith)
  extract x (y ∷ ys) h = go (same x y) refl (extract x ys)
    where
      go : (b : Bool) → same x y ≡ b → (0 < count same x ys → (zs : List X) × Permutation ys (x ∷ zs)) → (zs : List X) × Permutation (y ∷ ys) (x ∷ zs)
      go true e known = (ys, permuted-cons (sym (eq.sound x y e)) (permuted-refl ys))
      go false e known =
          let found = known (rw e at h) in
          (y ∷ found.0, permuted-trans (permuted-cons refl found.1) (permuted-swap refl refl))

  cancel : (z x : X) (xs ys : List X) → count same z (x ∷ xs) ≡ count same z (x ∷ ys) → count same z xs ≡ count same z ys
  cancel z x xs ys e = grind arith

  pub permuted_from_counts : (xs ys : List X) → ((x : X) → count same x xs ≡ count same x ys) → Permutation xs ys
  permuted_from_counts [] [] e = permuted-nil
  permuted_from_counts [] (y ∷ ys) e = absurd (omega (arith, e y, count_self y ys))
  permuted_from_counts (x ∷ xs) ys e =
      let found = extract x ys (omega (arith, e x, count_self x xs)) in
      let zs = found.0 in
      let rests = λ (z : X). cancel z x xs zs (e z ∙ permuted_count z found.1) in
      permuted-trans (permuted-cons refl (permuted_from_counts xs zs rests)) (permuted-sym found.1)
