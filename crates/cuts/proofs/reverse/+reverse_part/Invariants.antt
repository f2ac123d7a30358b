use Rattle.algebra.specs.Score.{nodes}
use Rattle.nodes.specs.Scores.{part_at}
use Rattle.cuts.proofs.reverse.+reverse_part.Given as goal

abbrev pub decreases-reverse_part : goal.decreases-reverse_part
decreases-reverse_part g l = nodes (part_at l.score.now l.at)
