-- The scores that a place may hold.
use Rattle.std.specs.Prelude.{◌≤◌}
use Rattle.algebra.specs.Kind.{KindModel}
use Rattle.algebra.specs.Score.{Score, Legal, nodes, primitives, score_length}

-- What a place has room for: 1,023 nodes, 170 primitives and a length of 16,777,215.
pub record Fits (K : KindModel) (s : Score) : Type 0 where
  pub few_nodes : nodes s ≤ 1023
  pub few_primitives : primitives s ≤ 170
  pub short : score_length K s ≤ 16777215

-- A score that may be held: its primitives are of the kind, and there is room for it.
pub record Holdable (K : KindModel) (s : Score) : Type 0 where
  pub legal : Legal K s
  pub fits : Fits K s
