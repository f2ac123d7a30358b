use Rattle.std.proofs.Common.{length, ap, arith}
use Rattle.rack.proofs.Shelves.{length_shelf}
use Rattle.rack.proofs.rack.Rack.number.Goals as goal

pub returns : goal.returns
returns g c = omega (arith, c.min.ensures, length_shelf g.K.Kind.numbers_of c.self.inside.nodes.now c.self.inside.places, ap length c.self.view_is)
