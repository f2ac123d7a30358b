-- Rewriting at a node is a step by a rule there, and every step is one.
use Rattle.std.proofs.Common.{◌≡◌, ℕ, ◌+◌, ◌<◌, Some, None, Option, sym, refl, ap, ◌∙◌, subst, inl, inr, arith}
use Rattle.std.proofs.lemmas.Bool.{cases_lt}
use Rattle.algebra.specs.declared.rule.Rule.{Rule}
use Rattle.algebra.specs.declared.rule.Way.{Way}
use Rattle.algebra.specs.declared.rule.Way.TheVariants.{Forth, Back}
use Rattle.algebra.specs.Kind.{KindModel}
use Rattle.algebra.specs.Score.{Score, Score.rest, Score.primitive, Score.sequence, Score.parallel, nodes}
use Rattle.algebra.specs.Rules.{Across, Step, Step.forth, Step.back, Step.sequence_left, Step.sequence_right, Step.parallel_left, Step.parallel_right}
use Rattle.algebra.specs.Rewrite.{mapped, other_side, rewritten}
use Rattle.algebra.specs.Theorems.{RewritesThere, RewritesNowhere, RewritesStep, RewriteSize, StepsRewrite}
use Rattle.algebra.proofs.Nodes.{spot_at, none_at, sequences, parallels, at_whole, at_left, at_right}
use Rattle.algebra.proofs.OtherSides.{some_same, none_some, across, Split, split_forth, split_back}
use Rattle.algebra.proofs.Sizes.{step_size}

pub rewrites_there : RewritesThere
rewrites_there K rule way split node s h = let spot = spot_at s node h in (spot.place, spot.does (other_side K rule way split))

pub rewrites_nowhere : RewritesNowhere
rewrites_nowhere K rule way split node s h = none_at (other_side K rule way split) s node h

across_step : (K : KindModel) (rule : Rule) (way : Way) (s t : Score) → Across K rule way s t → Step K s t
across_step K rule Forth s t r = forth r
across_step K rule Back s t r = back r

from_mapped : (f : Score → Score) (o : Option Score) {t : Score} → mapped f o ≡ Some t → (u : Score) × (o ≡ Some u) × (f u ≡ t)
from_mapped f None e = none_some e
from_mapped f (Some u) e = (u, refl, some_same e)

pub rewrites_step : RewritesStep
rewrites_step K rule way split node s t e = elim (cases_lt node (nodes s)) [
  | inl h ↦
      let spot = spot_at s node h in
      let p = spot.place in
      let (u, made, same) = from_mapped p.put (other_side K rule way split p.part) (sym (spot.does (other_side K rule way split)) ∙ e) in
      let step = spot.steps K p.part u (across_step K rule way p.part u (across K rule way split p.part u made)) in
      subst (Step K s) same (subst (λ v. Step K v (p.put u)) p.own step)
  | inr h ↦ none_some (sym (rewrites_nowhere K rule way split node s h) ∙ e)
]

pub rewrite_size : RewriteSize
rewrite_size K rule way split node s t e = step_size K s t (rewrites_step K rule way split node s t e)

some_node : (s : Score) → 0 < nodes s
some_node (rest d) = omega arith
some_node (primitive p) = omega arith
some_node (sequence a b) = omega arith
some_node (parallel a b) = omega arith

module _ (K : KindModel) where
  -- a node where rewriting does the step
  abbrev Found : Score → Score → Type 0
  Found s t = (rule : Rule) × (way : Way) × (split : ℕ) × (node : ℕ) × (node < nodes s) × (rewritten K rule way split node s ≡ Some t)

  found_whole : (rule : Rule) (way : Way) (s t : Score) → Split K rule way s t → Found s t
  found_whole rule way s t (split, e) = (rule, way, split, 0, some_node s, at_whole (other_side K rule way split) s ∙ e)

  found : {s t : Score} → Step K s t → Found s t
  found (forth r) = found_whole _ Forth _ _ (split_forth K r)
  found (back r) = found_whole _ Back _ _ (split_back K r)
  found (sequence_left {a} {b} {c} p) =
      let (rule, way, split, node, below, e) = found p in
      (rule, way, split, 1 + node, omega arith, at_left sequence sequences (other_side K rule way split) node a c below ∙ ap (mapped (λ x. sequence x c)) e)
  found (sequence_right {a} {b} {c} p) =
      let (rule, way, split, node, below, e) = found p in
      (rule, way, split, 1 + nodes c + node, omega arith, at_right sequence sequences (other_side K rule way split) node a c ∙ ap (mapped (sequence c)) e)
  found (parallel_left {a} {b} {c} p) =
      let (rule, way, split, node, below, e) = found p in
      (rule, way, split, 1 + node, omega arith, at_left parallel parallels (other_side K rule way split) node a c below ∙ ap (mapped (λ x. parallel x c)) e)
  found (parallel_right {a} {b} {c} p) =
      let (rule, way, split, node, below, e) = found p in
      (rule, way, split, 1 + nodes c + node, omega arith, at_right parallel parallels (other_side K rule way split) node a c ∙ ap (mapped (parallel c)) e)

pub steps_rewrite : StepsRewrite
steps_rewrite K s t p = found K p
