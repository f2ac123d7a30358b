-- Runs of one class of bytes. Assumes nothing.
use Rattle.std.proofs.Common.{◌≡◌, ℕ, ◌^◌, ◌<◌, ◌≤◌, List, [], ◌∷◌, ◌++◌, length, get_or, drop, decimal, sym, refl, ap, ◌∙◌, subst, arith}
use Rattle.std.specs.List.{AllByRecursion}
use Rattle.std.proofs.lemmas.Fmt.{decimal_by_steps, decimal_injective}
use Rattle.std.proofs.ByRecursion.{All-append}
use Rattle.std.proofs.lemmas.List.{append_assoc, append_cancel_left}

-- what comes next, if anything does, is not in the class
abbrev pub Ends : (ℕ → Type 0) → List ℕ → Type 0
Ends D [] = Unit {0}
Ends D (b ∷ s) = D b → ⊥

module _ (D : ℕ → Type 0) where
  -- two runs that go no further are the same
  same_run : (u z v y : List ℕ) → AllByRecursion D u → AllByRecursion D v → Ends D z → Ends D y → u ++ z ≡ v ++ y → u ≡ v
  same_run [] z [] y a b oz oy e = refl
  same_run [] [] (d ∷ v) y a b oz oy e = absurd (omega (arith, ap length e))
  same_run [] (c ∷ z) (d ∷ v) y a b oz oy e =
      let same : c ≡ d = ap (λ l. get_or l 0 0) e in
      absurd (oz (subst D (sym same) b.0))
  same_run (c ∷ u) z [] [] a b oz oy e = absurd (omega (arith, ap length e))
  same_run (c ∷ u) z [] (d ∷ y) a b oz oy e =
      let same : c ≡ d = ap (λ l. get_or l 0 0) e in
      absurd (oy (subst D same a.0))
  same_run (c ∷ u) z (d ∷ v) y a b oz oy e =
      let one : c ≡ d = ap (λ l. get_or l 0 0) e in
      let two : u ≡ v = same_run u z v y a.1 b.1 oz oy (ap (λ l. drop 1 l) e) in
      λ i. one i ∷ two i

  pub split_run : (u z v y : List ℕ) → AllByRecursion D u → AllByRecursion D v → Ends D z → Ends D y → u ++ z ≡ v ++ y → (u ≡ v) × (z ≡ y)
  split_run u z v y a b oz oy e =
      let same = same_run u z v y a b oz oy e in
      (same, append_cancel_left u z y (e ∙ ap (λ l. l ++ y) (sym same)))

  -- a run, and then a byte that is not in the class
  pub split_before : (end : ℕ) → (D end → ⊥) → (u z v y : List ℕ) → AllByRecursion D u → AllByRecursion D v → (u ++ (end ∷ [])) ++ z ≡ (v ++ (end ∷ [])) ++ y → (u ≡ v) × (z ≡ y)
  split_before end other u z v y a b e =
      let parts = split_run u (end ∷ z) v (end ∷ y) a b other other (sym (append_assoc u (end ∷ []) z) ∙ e ∙ append_assoc v (end ∷ []) y) in
      (parts.0, ap (drop 1) parts.1)

abbrev pub Digit : ℕ → Type 0
Digit b = (48 ≤ b) × (b ≤ 57)

pub digits_decimal : (n : ℕ) → n < 2 ^ 64 → AllByRecursion Digit (decimal n)
digits_decimal n h =
    decimal_by_steps (λ n ds. AllByRecursion Digit ds)
    (λ n l. ((omega arith, omega arith), tt))
    (λ n ds l a. All-append Digit ds _ a ((omega arith, omega arith), tt))
    n h

-- a number that no digit follows
pub split_number : (m n : ℕ) (z y : List ℕ) → m ≤ 4294967295 → n ≤ 4294967295 → Ends Digit z → Ends Digit y → decimal m ++ z ≡ decimal n ++ y → (m ≡ n) × (z ≡ y)
split_number m n z y a b oz oy e =
    let m64 : m < 2 ^ 64 = omega arith in
    let n64 : n < 2 ^ 64 = omega arith in
    let parts = split_run Digit (decimal m) z (decimal n) y (digits_decimal m m64) (digits_decimal n n64) oz oy e in
    (decimal_injective m n m64 n64 parts.0, parts.1)

-- a number, and then a byte that is no digit
pub split_number_before : (end : ℕ) → (Digit end → ⊥) → (m n : ℕ) (z y : List ℕ) → m ≤ 4294967295 → n ≤ 4294967295 → (decimal m ++ (end ∷ [])) ++ z ≡ (decimal n ++ (end ∷ [])) ++ y → (m ≡ n) × (z ≡ y)
split_number_before end other m n z y a b e =
    let parts = split_number m n (end ∷ z) (end ∷ y) a b other other (sym (append_assoc (decimal m) (end ∷ []) z) ∙ e ∙ append_assoc (decimal n) (end ∷ []) y) in
    (parts.0, ap (drop 1) parts.1)
