-- The steps that the numbers of a rewriting name, and what they make of a score.
use Rattle.std.specs.Prelude.{ℕ, ◌&&◌, ◌||◌, List, [], ◌∷◌, is_some, Some, None, Ok, Err, Option, Result, ◌==◌}
use Rattle.algebra.specs.declared.rule.Rule.{Rule}
use Rattle.algebra.specs.declared.rule.Way.{Way}
use Rattle.algebra.specs.Kind.{KindModel}
use Rattle.algebra.specs.Numbered.{rule_numbered, way_numbered}
use Rattle.algebra.specs.Score.{Score}
use Rattle.algebra.specs.Rewrite.{rewritten}
use Rattle.refusals.specs.declared.refusal.Refusal.{Refusal}
use Rattle.refusals.specs.declared.refusal.Refusal.TheVariants.{BadValue, NoFit}
use Rattle.refusals.specs.Checks.{Check, passed, unless}
use Rattle.rewriting.specs.declared.step.Step.{Step}
use Rattle.building.specs.declared.size.Size.{Size}
use Rattle.building.specs.Sizes.{sized}

-- The step of a rule and a way, if there are such, and of a split.
abbrev pub step_of : Option Rule → Option Way → ℕ → Option Step
step_of None way split = None
step_of (Some rule) None split = None
step_of (Some rule) (Some way) split = Some (record { rule = rule; way = way; split = split })

-- The step that three numbers name.
abbrev pub step_named : ℕ → ℕ → ℕ → Option Step
step_named rule way split = step_of (rule_numbered rule) (way_numbered way) split

-- A rule outside 1 to 9, a way above 1, and a split other than 0 where it is not rule 7, way 1, are refused by 10 with that number.
abbrev pub step_checks : ℕ → ℕ → ℕ → List Check
step_checks rule way split =
    unless (is_some (rule_numbered rule)) (BadValue rule) ∷ unless (is_some (way_numbered way)) (BadValue way) ∷ unless (split == 0 || (rule == 7 && way == 1)) (BadValue split) ∷ []

-- An answer that gives a step, by its refusal alone.
abbrev pub step_check : Result Step Refusal → Check
step_check (Ok step) = passed
step_check (Err e) = Err e

-- What a step makes of a score at a node, if it fits there.
abbrev pub stepped : KindModel → Option Step → ℕ → Score → Option Score
stepped K None node s = None
stepped K (Some step) node s = rewritten K step.rule step.way step.split node s

-- What is answered of a step's result: its size within the limits, or 25 with the node where the step does not fit.
abbrev pub stepped_size : KindModel → ℕ → Option Score → Result Size Refusal
stepped_size K node None = Err (NoFit node)
stepped_size K node (Some s) = sized K s
