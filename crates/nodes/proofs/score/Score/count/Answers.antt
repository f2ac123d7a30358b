use Rattle.std.proofs.Common.{ap, ◌∙◌}
use Rattle.algebra.specs.Score.{nodes}
use Rattle.nodes.proofs.Standings.{nodes_long, stands_small}
use Rattle.nodes.proofs.score.Score.count.Goals as goal

pub returns-clause-nodes : goal.returns-clause-nodes
returns-clause-nodes g c =
    nodes_long g.K.Kind.model g.K.Kind.numbers_of c.self.inside.nodes.now c.self.inside.spans.now c.self.invariant.tabled ∙ ap nodes c.self.view_is

pub returns-clause-small : goal.returns-clause-small
returns-clause-small g c = stands_small g.K.Kind.numbers_of c.self.inside.nodes.now c.self.invariant.tabled.stands
