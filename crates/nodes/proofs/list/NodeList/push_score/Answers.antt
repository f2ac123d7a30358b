use Rattle.std.proofs.Common.{length, ap, arith}
use Rattle.std.proofs.lemmas.List.{length-map}
use Rattle.algebra.specs.Layout.{seen}
use Rattle.nodes.proofs.Parts.{length_preorder}
use Rattle.nodes.proofs.list.NodeList.push_score.Goals as goal

pub extend-requires : goal.extend-requires
extend-requires g c = omega (arith, length-map c.nodes.result.now (seen g.K.Kind.numbers_of), ap length c.nodes.ensures.nodes, length_preorder c.args.score.now, c.requires)
