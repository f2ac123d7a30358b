use Rattle.std.proofs.Common.{length, refl, ap, arith}
use Rattle.algebra.specs.Score.{Score.rest}
use Rattle.rack.proofs.Room.{fewer_bytes}
use Rattle.rack.proofs.Shelves.{length_shelf}
use Rattle.rack.proofs.rack.Rack.put_rest.Goals as goal

pub shared_whole_as_slice-put : goal.shared_whole_as_slice-put
shared_whole_as_slice-put g c =
    omega (arith, fewer_bytes c.self.inside.nodes.now c.args.to _ _ (omega (arith, c.requires.known, ap length c.self.view_is, length_shelf g.K.Kind.numbers_of c.self.inside.nodes.now c.self.inside.places)) c.self.ranges.0.0.1.1)

pub put-requires-clause-ready : goal.put-requires-clause-ready
put-requires-clause-ready g c = (
  rest c.args.ticks,
  record {
    nodes = refl;
    size_is = refl;
    fits = record { few_nodes = omega arith; few_primitives = omega arith; short = c.requires.short };
  },
)
