use Rattle.std.proofs.Common.{◌++◌, ap, ◌∙◌, arith}
use Rattle.algebra.specs.Layout.{preorder}
use Rattle.algebra.specs.Score.{nodes}
use Rattle.algebra.specs.Cuts.{reversed}
use Rattle.nodes.proofs.Parts.{some_node}
use Rattle.nodes.proofs.Shapes.{score_preorder}
use Rattle.cuts.proofs.reverse.reverse_into.Goals as goal

pub reverse_part-requires-clause-inside : goal.reverse_part-requires-clause-inside
reverse_part-requires-clause-inside g c = omega (arith, some_node c.args.score.now)

pub reverse_part-requires-clause-room : goal.reverse_part-requires-clause-room
reverse_part-requires-clause-room g c = omega (arith, ap (λ s. nodes (reversed g.K.Kind.model s)) (score_preorder c.args.score.now), c.requires)

pub returns-clause-items : goal.returns-clause-items
returns-clause-items g c = c.reverse_part.ensures.items ∙ ap (λ s. c.args.out.now.items ++ preorder (reversed g.K.Kind.model s)) (score_preorder c.args.score.now)
