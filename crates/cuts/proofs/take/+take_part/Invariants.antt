use Rattle.algebra.specs.Score.{nodes}
use Rattle.nodes.specs.Scores.{part_at}
use Rattle.cuts.proofs.take.+take_part.Given as goal

abbrev pub decreases-take_part : goal.decreases-take_part
decreases-take_part g l = nodes (part_at l.score.now l.at)
