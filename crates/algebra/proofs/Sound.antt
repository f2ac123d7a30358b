-- A chain keeps length and bag.
use Rattle.std.proofs.Common.{◌≡◌, ℕ, ◌+◌, max, List, [], ◌∷◌, map, sym, refl, ◌∙◌, ap₂, append_assoc, append-nil, add_assoc, zero-add, arith}
use mathlib.Core.List.Permᴰ.{refl as permuted-refl}
use mathlib.Core.List.Permᴰ.{symm as permuted-sym}
use mathlib.Core.List.Permᴰ.{trans as permuted-trans}
use mathlib.Core.List.{Permᴰ as Permutation}
use Rattle.algebra.specs.declared.rule.Rule.{Rule}
use Rattle.algebra.specs.Kind.{KindModel}
use Rattle.algebra.specs.Score.{Score, Score.sequence, Score.parallel, score_length, Placed, placed, later}
use Rattle.algebra.specs.Rules.{
  Sides,
  Sides.sequence_associative,
  Sides.parallel_associative,
  Sides.parallel_commutative,
  Sides.sequence_unit_left,
  Sides.sequence_unit_right,
  Sides.parallel_unit,
  Sides.rest_split,
  Sides.rest_beside,
  Sides.exchange,
  Step,
  Step.forth,
  Step.back,
  Step.sequence_left,
  Step.sequence_right,
  Step.parallel_left,
  Step.parallel_right,
  Chain,
  Chain.done,
  Chain.more,
}
use Rattle.algebra.proofs.Bags.{map_append, permuted_equal, permuted_append, permuted_append_exchanged, permuted_exchange, permuted_map}

pub later_later : (j k : ℕ) (xs : List Placed) → map (later j) (map (later k) xs) ≡ map (later (j + k)) xs
later_later j k [] = refl
later_later j k (x ∷ xs) = ap₂ (λ (o : ℕ) (ys : List Placed). record { onset = o; what = x.what } ∷ ys) (sym (add_assoc j k x.onset)) (later_later j k xs)

pub later_zero : (xs : List Placed) → map (later 0) xs ≡ xs
later_zero [] = refl
later_zero (x ∷ xs) = ap₂ (λ (o : ℕ) (ys : List Placed). record { onset = o; what = x.what } ∷ ys) (zero-add x.onset) (later_zero xs)

-- Equal lengths, and placed primitives that are permutations of one another.
pub record Kept (K : KindModel) (s t : Score) : Type 0 where
  pub length : score_length K s ≡ score_length K t
  pub bag : Permutation (placed K s) (placed K t)

module _ {K : KindModel} where
  sides_kept : {rule : Rule} {s t : Score} → Sides K rule s t → Kept K s t
  sides_kept (sequence_associative {a} {b} {c}) = record {
    length = add_assoc (score_length K a) (score_length K b) (score_length K c);
    bag = permuted_equal (simp (append_assoc, map_append, later_later));
  }
  sides_kept (parallel_associative {a} {b} {c}) = record { length = omega arith; bag = permuted_equal (append_assoc (placed K a) (placed K b) (placed K c)) }
  sides_kept (parallel_commutative {a} {b}) = record { length = omega arith; bag = permuted_append_exchanged (placed K a) (placed K b) }
  sides_kept (sequence_unit_left {a}) = record { length = omega arith; bag = permuted_equal (later_zero (placed K a)) }
  sides_kept (sequence_unit_right {a}) = record { length = omega arith; bag = permuted_equal (append-nil (placed K a)) }
  sides_kept (parallel_unit {a}) = record { length = omega arith; bag = permuted_equal (append-nil (placed K a)) }
  sides_kept (rest_split e) = record { length = sym e; bag = permuted-refl [] }
  sides_kept (rest_beside {a = a} e) = record { length = omega arith; bag = permuted-refl (placed K a) }
  sides_kept (exchange {a} {b} {c} {d} e) = record {
    length = omega arith;
    bag =
        let whole : max (score_length K a) (score_length K c) ≡ score_length K a = omega arith in
        simp (whole, map_append, ← e) (permuted_exchange (placed K a) (map (later (score_length K a)) (placed K b)) (placed K c) (map (later (score_length K a)) (placed K d)));
  }

  kept_sym : {s t : Score} → Kept K s t → Kept K t s
  kept_sym k = record { length = sym k.length; bag = permuted-sym k.bag }

  kept_sequence : {a b c d : Score} → Kept K a b → Kept K c d → Kept K (sequence a c) (sequence b d)
  kept_sequence {a} {b} {c} {d} k h = record {
    length = omega (arith, k.length, h.length);
    bag = permuted_append k.bag (rw k.length (permuted_map (later (score_length K b)) h.bag));
  }

  kept_parallel : {a b c d : Score} → Kept K a b → Kept K c d → Kept K (parallel a c) (parallel b d)
  kept_parallel k h = record { length = omega (arith, k.length, h.length); bag = permuted_append k.bag h.bag }

  pub kept_refl : {s : Score} → Kept K s s
  kept_refl {s} = record { length = refl; bag = permuted-refl (placed K s) }

  step_kept : {s t : Score} → Step K s t → Kept K s t
  step_kept (forth r) = sides_kept r
  step_kept (back r) = kept_sym (sides_kept r)
  step_kept (sequence_left p) = kept_sequence (step_kept p) kept_refl
  step_kept (sequence_right p) = kept_sequence kept_refl (step_kept p)
  step_kept (parallel_left p) = kept_parallel (step_kept p) kept_refl
  step_kept (parallel_right p) = kept_parallel kept_refl (step_kept p)

  pub chain_kept : {s t : Score} → Chain K s t → Kept K s t
  chain_kept done = kept_refl
  chain_kept (more p c) =
      let k = step_kept p in
      let h = chain_kept c in
      record { length = k.length ∙ h.length; bag = permuted-trans k.bag h.bag }
