use Rattle.algebra.specs.Score.{nodes}
use Rattle.nodes.specs.Scores.{part_at}
use Rattle.cuts.proofs.drop.+drop_part.Given as goal

abbrev pub decreases-drop_part : goal.decreases-drop_part
decreases-drop_part g l = nodes (part_at l.score.now l.at)
