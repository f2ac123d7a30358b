-- What comes of a step of rewriting.
use Rattle.std.proofs.Common.{◌≡◌, ℕ, ◌+◌, ◌≤◌, ◌++◌, Some, None, Option, refl, arith}
use Rattle.algebra.specs.Kind.{KindModel}
use Rattle.algebra.specs.Score.{Score, nodes, score_length}
use Rattle.algebra.specs.Layout.{preorder}
use Rattle.algebra.specs.Rules.{Chain.done, Chain.more}
use Rattle.algebra.proofs.Rewrite.{rewrites_step, rewrite_size}
use Rattle.algebra.proofs.Sound.{chain_kept}
use Rattle.nodes.specs.Lists.{Listed}
use Rattle.refusals.specs.Checks.{passed}
use Rattle.rewriting.specs.declared.step.Step.{Step}
use Rattle.rewriting.specs.Rewritings.{Rewrote}
use Rattle.building.specs.Steps.{stepped}

-- a step keeps the length
pub step_length : (K : KindModel) (step : Step) (node : ℕ) (s t : Score) → stepped K (Some step) node s ≡ Some t → score_length K s ≡ score_length K t
step_length K step node s t is = (chain_kept (more (rewrites_step K step.rule step.way step.split node s t is) done)).length

module _ (K : KindModel) (step : Step) (node : ℕ) (s : Score) where
  -- what a step has put behind the nodes of a list
  pub record Done (xs ys : Listed) : Type 0 where
    pub result : Score
    pub is : stepped K (Some step) node s ≡ Some result
    pub row : ys.items ≡ xs.items ++ preorder result
    pub room : ys.room ≡ xs.room
    pub length : score_length K s ≡ score_length K result
    pub few : nodes result ≤ nodes s + 2

  pub step_done : (xs ys : Listed) → Rewrote node (stepped K (Some step) node s) xs ys passed → Done xs ys
  step_done xs ys = at (stepped K (Some step) node s) refl
    where
      at : (o : Option Score) → stepped K (Some step) node s ≡ o → Rewrote node o xs ys passed → Done xs ys
      at None is w = absurd (grind arith)
      at (Some t) is w = record {
        result = t;
        is = is;
        row = w.row;
        room = w.kept;
        length = step_length K step node s t is;
        few = (rewrite_size K step.rule step.way step.split node s t is).1;
      }
