use Rattle.std.proofs.Common.{length, ap, arith}
use Rattle.rack.proofs.Room.{fewer_bytes}
use Rattle.rack.proofs.Shelves.{length_shelf}
use Rattle.rack.proofs.rack.Rack.change.Goals as goal

pub whole_as_slice-over : goal.whole_as_slice-over
whole_as_slice-over g c =
    fewer_bytes c.self.inside.nodes.now c.args.to _ _ (omega (arith, c.in_ok-known.ensures.within, ap length c.self.view_is, length_shelf g.K.Kind.numbers_of c.self.inside.nodes.now c.self.inside.places)) c.self.ranges.0.0.1.1
