-- Runs of one class of bytes.
use Rattle.std.proofs.Common.{◌≡◌, ℕ, List, [], ◌∷◌, ◌++◌, length, get_or, drop, sym, refl, ap, subst, arith}
use Rattle.std.specs.List.{AllByRecursion}
use Rattle.reading.specs.Passing.{Opens}

module _ (D : ℕ → Type 0) where
  -- a run in front of what holds a run that goes no further
  pub front_run : (u more v z : List ℕ) → AllByRecursion D u → Opens (λ b. D b → ⊥) z → u ++ more ≡ v ++ z → (x : List ℕ) × (v ≡ u ++ x)
  front_run [] more v z a oz e = (v, refl)
  front_run (c ∷ u) more [] [] a oz e = absurd (omega (arith, ap length e))
  front_run (c ∷ u) more [] (d ∷ z) a oz e =
      let same : c ≡ d = ap (λ l. get_or l 0 0) e in
      absurd (oz (subst D same a.0))
  front_run (c ∷ u) more (d ∷ v) z a oz e =
      let one : c ≡ d = ap (λ l. get_or l 0 0) e in
      let h = front_run u more v z a.1 oz (ap (λ l. drop 1 l) e) in
      (h.0, λ i. sym one i ∷ h.1 i)

  -- two runs that go no further are the same
  pub same_run : (u z v y : List ℕ) → AllByRecursion D u → AllByRecursion D v → Opens (λ b. D b → ⊥) z → Opens (λ b. D b → ⊥) y → u ++ z ≡ v ++ y → u ≡ v
  same_run [] z [] y a b oz oy e = refl
  same_run [] [] (d ∷ v) y a b oz oy e = absurd (omega (arith, ap length e))
  same_run [] (c ∷ z) (d ∷ v) y a b oz oy e =
      let same : c ≡ d = ap (λ l. get_or l 0 0) e in
      absurd (oz (subst D (sym same) b.0))
  same_run (c ∷ u) z [] [] a b oz oy e = absurd (omega (arith, ap length e))
  same_run (c ∷ u) z [] (d ∷ y) a b oz oy e =
      let same : c ≡ d = ap (λ l. get_or l 0 0) e in
      absurd (oy (subst D same a.0))
  same_run (c ∷ u) z (d ∷ v) y a b oz oy e =
      let one : c ≡ d = ap (λ l. get_or l 0 0) e in
      let two : u ≡ v = same_run u z v y a.1 b.1 oz oy (ap (λ l. drop 1 l) e) in
      λ i. one i ∷ two i
