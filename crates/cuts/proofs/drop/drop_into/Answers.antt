use Rattle.std.proofs.Common.{◌++◌, ap, ◌∙◌, arith}
use Rattle.algebra.specs.Layout.{preorder}
use Rattle.algebra.specs.Score.{nodes}
use Rattle.algebra.specs.Cuts.{dropped}
use Rattle.nodes.proofs.Parts.{some_node}
use Rattle.nodes.proofs.Shapes.{score_preorder}
use Rattle.cuts.proofs.drop.drop_into.Goals as goal

pub drop_part-requires-clause-inside : goal.drop_part-requires-clause-inside
drop_part-requires-clause-inside g c = omega (arith, some_node c.args.score.now)

pub drop_part-requires-clause-room : goal.drop_part-requires-clause-room
drop_part-requires-clause-room g c = omega (arith, ap (λ s. nodes (dropped g.K.Kind.model c.args.ticks s)) (score_preorder c.args.score.now), c.requires)

pub returns-clause-items : goal.returns-clause-items
returns-clause-items g c = c.drop_part.ensures.items ∙ ap (λ s. c.args.out.now.items ++ preorder (dropped g.K.Kind.model c.args.ticks s)) (score_preorder c.args.score.now)
