-- What a kind answers, by its model.
use Rattle.std.specs.Prelude.{ℕ, cond, ◌&&◌, Some, None, Option, nat_le, nat_lt}
use Rattle.algebra.specs.declared.numbers.Numbers.{Numbers}
use Rattle.algebra.specs.Kind.{KindModel}

-- an answer by the primitive's numbers
abbrev pub numbered : {P : Type 0} → (P → Numbers) → Option P → Option Numbers
numbered f (Some x) = Some (f x)
numbered f None = None

module _ (K : KindModel) where
  -- the primitive that making gives: none for numbers outside the legal set
  abbrev pub made : Numbers → Option Numbers
  made p = cond (K.legal p) (Some p) None

  -- a head of k ticks, for k from 1 to the length
  abbrev pub head_at : Numbers → ℕ → Option Numbers
  head_at p k = cond (nat_le 1 k && nat_le k (K.length_of p)) (Some (K.head_of k p)) None

  -- the tail from k ticks on, for k below the length
  abbrev pub tail_at : Numbers → ℕ → Option Numbers
  tail_at p k = cond (nat_lt k (K.length_of p)) (Some (K.tail_of k p)) None
