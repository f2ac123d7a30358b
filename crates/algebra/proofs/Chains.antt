-- Chains as an equivalence that sequence and parallel keep, and the chains that take a pair apart.
use Rattle.std.proofs.Common.{◌≡◌, ℕ, ◌+◌, ◌-◌, max, refl, arith}
use Rattle.algebra.specs.declared.rule.Rule.{Rule}
use Rattle.algebra.specs.Kind.{KindModel}
use Rattle.algebra.specs.Score.{Score, Score.rest, Score.sequence, Score.parallel, score_length}
use Rattle.algebra.specs.Rules.{
  Sides,
  Sides.parallel_associative,
  Sides.parallel_commutative,
  Sides.sequence_unit_right,
  Sides.parallel_unit,
  Sides.rest_split,
  Sides.rest_beside,
  Sides.exchange,
  Step,
  Step.forth,
  Step.back,
  Step.sequence_left,
  Step.sequence_right,
  Step.parallel_left,
  Step.parallel_right,
  Chain,
  Chain.done,
  Chain.more,
}

module _ {K : KindModel} where
  infixr 20 ◌⟫◌
  pub ◌⟫◌ : {a b c : Score} → Chain K a b → Chain K b c → Chain K a c
  done ⟫ q = q
  more s p ⟫ q = more s (p ⟫ q)

  pub by : {rule : Rule} {a b : Score} → Sides K rule a b → Chain K a b
  by r = more (forth r) done

  flip : {a b : Score} → Step K a b → Step K b a
  flip (forth r) = back r
  flip (back r) = forth r
  flip (sequence_left s) = sequence_left (flip s)
  flip (sequence_right s) = sequence_right (flip s)
  flip (parallel_left s) = parallel_left (flip s)
  flip (parallel_right s) = parallel_right (flip s)

  pub inverse : {a b : Score} → Chain K a b → Chain K b a
  inverse done = done
  inverse (more s p) = inverse p ⟫ more (flip s) done

  -- a function that keeps steps keeps chains
  lift : (f : Score → Score) → ((a b : Score) → Step K a b → Step K (f a) (f b)) → {a b : Score} → Chain K a b → Chain K (f a) (f b)
  lift f keeps done = done
  lift f keeps (more s p) = more (keeps _ _ s) (lift f keeps p)

  pub in_sequence_lem : {a b c d : Score} → Chain K a b → Chain K c d → Chain K (sequence a c) (sequence b d)
  in_sequence_lem {b = b} {c = c} p q = lift (λ x. sequence x c) (λ _ _ s. sequence_left s) p ⟫ lift (sequence b) (λ _ _ s. sequence_right s) q

  pub in_parallel_lem : {a b c d : Score} → Chain K a b → Chain K c d → Chain K (parallel a c) (parallel b d)
  in_parallel_lem {b = b} {c = c} p q = lift (λ x. parallel x c) (λ _ _ s. parallel_left s) p ⟫ lift (parallel b) (λ _ _ s. parallel_right s) q

  pub beside_rest : {n : ℕ} {a : Score} → n ≡ score_length K a → Chain K (parallel a (rest n)) a
  beside_rest e = by parallel_commutative ⟫ by (rest_beside e)

  parallel_exchange : {a b c d : Score} → Chain K (parallel (parallel a b) (parallel c d)) (parallel (parallel a c) (parallel b d))
  parallel_exchange = by parallel_associative ⟫ in_parallel_lem done (inverse (by parallel_associative) ⟫ in_parallel_lem (by parallel_commutative) done ⟫ by parallel_associative) ⟫ inverse (by parallel_associative)

  -- a rest beside a shorter score is a rest after it
  pub pad : {n k : ℕ} {a : Score} → n ≡ score_length K a + k → Chain K (parallel a (rest n)) (sequence a (rest k))
  pad e =
      in_parallel_lem (inverse (by sequence_unit_right)) (inverse (by (rest_split e)))
      ⟫ by (exchange refl)
      ⟫ in_sequence_lem (beside_rest refl) (by parallel_commutative ⟫ by parallel_unit)

  -- both parts of a sequence, each over the whole length
  pub sequence_apart : (a b : Score) → Chain K (sequence a b) (parallel (sequence a (rest (score_length K b))) (sequence (rest (score_length K a)) b))
  sequence_apart a b = inverse (by (exchange refl) ⟫ in_sequence_lem (beside_rest refl) (by (rest_beside refl)))

  -- both parts of a parallel, each over the whole length
  pub parallel_apart : (a b : Score) → let n = max (score_length K a) (score_length K b) in Chain K (parallel a b) (parallel (sequence a (rest (n - score_length K a))) (sequence b (rest (n - score_length K b))))
  parallel_apart a b =
      inverse (beside_rest refl)
      ⟫ in_parallel_lem done (inverse (beside_rest refl))
      ⟫ parallel_exchange
      ⟫ in_parallel_lem (pad (omega arith)) (pad (omega arith))

  -- a rest before or after a parallel goes to both parts
  pub rest_before : {k : ℕ} {a b : Score} → Chain K (sequence (rest k) (parallel a b)) (parallel (sequence (rest k) a) (sequence (rest k) b))
  rest_before = inverse (by (exchange refl) ⟫ in_sequence_lem (beside_rest refl) done)

  pub rest_after : {k : ℕ} {a b : Score} → score_length K a ≡ score_length K b → Chain K (sequence (parallel a b) (rest k)) (parallel (sequence a (rest k)) (sequence b (rest k)))
  rest_after e = inverse (by (exchange e) ⟫ in_sequence_lem done (beside_rest refl))
