use Rattle.nodes.proofs.Standings.{limited_as}
use Rattle.nodes.proofs.measured.Measured.score.Goals as goal

pub returns-clause-limited : goal.returns-clause-limited
returns-clause-limited g c = limited_as g.K.Kind.model g.K.Kind.numbers_of c.self.inside.nodes.now c.self.inside.spans c.self.invariant c.self.view_is
