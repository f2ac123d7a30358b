use Rattle.algebra.specs.Score.{nodes}
use Rattle.nodes.specs.Scores.{part_at}
use Rattle.normal.proofs.meaning.+place_part.Given as goal

abbrev pub decreases-place_part : goal.decreases-place_part
decreases-place_part g l = nodes (part_at l.score.now l.at)
