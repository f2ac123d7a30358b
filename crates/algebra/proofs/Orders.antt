-- Comparing by one number, and then by what follows.
use Rattle.std.proofs.Common.{◌≡◌, ℕ, Ordering, Less, Equal, arith}
use Rattle.algebra.specs.Kind.{smaller_first, opposite}

module _ (a b : ℕ) (o : Ordering) where
  pub first_equal : smaller_first a b o ≡ Equal → (a ≡ b) × (o ≡ Equal)
  first_equal e = (grind arith, grind arith)

  pub first_opposite : (u : Ordering) → u ≡ opposite o → smaller_first b a u ≡ opposite (smaller_first a b o)
  first_opposite u e = grind arith

  pub first_before : (c : ℕ) (u v : Ordering) → (o ≡ Less → u ≡ Less → v ≡ Less) → smaller_first a b o ≡ Less → smaller_first b c u ≡ Less → smaller_first a c v ≡ Less
  first_before c u v k e d = grind arith
