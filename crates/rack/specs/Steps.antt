-- What rewriting answers.
use Rattle.std.specs.Prelude.{ℕ, List, [], ◌∷◌, ◌++◌, is_some, Option, nat_lt}
use Rattle.algebra.specs.Kind.{KindModel}
use Rattle.algebra.specs.Score.{Score, nodes}
use Rattle.refusals.specs.declared.refusal.Refusal.TheVariants.{NoSuchNode, NoFit}
use Rattle.refusals.specs.Checks.{Check, unless, all}
use Rattle.rewriting.specs.declared.step.Step.{Step}
use Rattle.building.specs.Sizes.{limits}
use Rattle.building.specs.Steps.{step_named, step_checks, stepped}
use Rattle.building.specs.Rows.{score_in}
use Rattle.rack.specs.Shelves.{Shelf, score_held}
use Rattle.rack.specs.Checks.{known, holding}

-- What a step makes of the score at a place of a shelf, if it fits there.
abbrev pub stepped_at : KindModel → Shelf → ℕ → ℕ → Option Step → Option Score
stepped_at K shelf place node step = stepped K step node (score_held shelf place)

-- The place and the node of a rewriting: 21, 22, and 24 with the count of nodes.
abbrev pub rewritable : Shelf → ℕ → ℕ → List Check
rewritable shelf place node =
    let count = nodes (score_held shelf place) in
    known shelf place ∷ holding shelf place ∷ unless (nat_lt node count) (NoSuchNode count) ∷ []

-- The result of a step, if it fits: 25 with the node, 26 and 27.
abbrev pub steppable : KindModel → ℕ → Option Score → List Check
steppable K node result = unless (is_some result) (NoFit node) ∷ limits K (score_in result)

-- Rewrite: 10 by the step, 21, 22 and 24 by the place and the node, and 25, 26 and 27 by the result.
abbrev pub rewrite_answer : KindModel → Shelf → ℕ → ℕ → ℕ → ℕ → ℕ → Check
rewrite_answer K shelf place node rule way split =
    all (step_checks rule way split ++ (rewritable shelf place node ++ steppable K node (stepped_at K shelf place node (step_named rule way split))))
