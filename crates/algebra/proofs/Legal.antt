-- A chain leads from a score of legal primitives to another.
use Rattle.algebra.specs.declared.rule.Rule.{Rule}
use Rattle.algebra.specs.Kind.{KindModel}
use Rattle.algebra.specs.Score.{Score, Legal}
use Rattle.algebra.specs.Rules.{
  Sides,
  Sides.sequence_associative,
  Sides.parallel_associative,
  Sides.parallel_commutative,
  Sides.sequence_unit_left,
  Sides.sequence_unit_right,
  Sides.parallel_unit,
  Sides.rest_split,
  Sides.rest_beside,
  Sides.exchange,
  Step,
  Step.forth,
  Step.back,
  Step.sequence_left,
  Step.sequence_right,
  Step.parallel_left,
  Step.parallel_right,
  Chain,
  Chain.done,
  Chain.more,
}
use Rattle.algebra.specs.Theorems.{ChainLegal}

module _ (K : KindModel) where
  -- both sides of a rule have the same primitives
  sides_legal : {rule : Rule} {a b : Score} → Sides K rule a b → (Legal K a → Legal K b) × (Legal K b → Legal K a)
  sides_legal sequence_associative = ((λ h. (h.0.0, (h.0.1, h.1))), λ h. ((h.0, h.1.0), h.1.1))
  sides_legal parallel_associative = ((λ h. (h.0.0, (h.0.1, h.1))), λ h. ((h.0, h.1.0), h.1.1))
  sides_legal parallel_commutative = ((λ h. (h.1, h.0)), λ h. (h.1, h.0))
  sides_legal sequence_unit_left = ((λ h. h.1), λ h. (tt, h))
  sides_legal sequence_unit_right = ((λ h. h.0), λ h. (h, tt))
  sides_legal parallel_unit = ((λ h. h.0), λ h. (h, tt))
  sides_legal (rest_split e) = ((λ h. tt), λ h. (tt, tt))
  sides_legal (rest_beside e) = ((λ h. h.1), λ h. (tt, h))
  sides_legal (exchange e) = ((λ h. ((h.0.0, h.1.0), (h.0.1, h.1.1))), λ h. ((h.0.0, h.1.0), (h.0.1, h.1.1)))

  step_legal : {a b : Score} → Step K a b → Legal K a → Legal K b
  step_legal (forth r) h = (sides_legal r).0 h
  step_legal (back r) h = (sides_legal r).1 h
  step_legal (sequence_left s) h = (step_legal s h.0, h.1)
  step_legal (sequence_right s) h = (h.0, step_legal s h.1)
  step_legal (parallel_left s) h = (step_legal s h.0, h.1)
  step_legal (parallel_right s) h = (h.0, step_legal s h.1)

  steps_legal : {a b : Score} → Chain K a b → Legal K a → Legal K b
  steps_legal done h = h
  steps_legal (more s c) h = steps_legal c (step_legal s h)

pub chain_legal : ChainLegal
chain_legal K s t l c = steps_legal K c l
