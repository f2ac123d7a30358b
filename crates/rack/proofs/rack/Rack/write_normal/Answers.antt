use Rattle.std.proofs.Common.{length, ap, arith}
use Rattle.building.proofs.Sizes.{on_always}
use Rattle.building.specs.Rows.{score_in}
use Rattle.rack.proofs.Room.{wide}
use Rattle.rack.proofs.NormalFiles.{bytes_decide}
use Rattle.rack.proofs.Shelves.{length_shelf, row_holdable}
use Rattle.rack.proofs.rack.Rack.write_normal.Goals as goal

pub write_normal_held-requires : goal.write_normal_held-requires
write_normal_held-requires g c = wide c.self.inside.nodes.now c.args.place (omega (arith, c.in_ok-known.ensures.within, ap length c.self.view_is, length_shelf g.K.Kind.numbers_of c.self.inside.nodes.now c.self.inside.places))

pub returns-clause-decides : goal.returns-clause-decides
returns-clause-decides g c =
    let K = g.K.Kind.model in
    let f = g.K.Kind.numbers_of in
    let laws = g.met.K.Kind.lawful in
    let first = row_holdable K laws.lengths f g.met.K.Kind.legal c.in_ok-own.own.nodes.now (ap score_in c.in_ok-own.ensures.held) c.in_ok-own.own.fits in
    let second = row_holdable K laws.lengths f g.met.K.Kind.legal c.in_ok-other.other.nodes.now (ap score_in c.in_ok-other.ensures.held) c.in_ok-other.other.fits in
    on_always c.write_normal_held.result (bytes_decide K laws _ _ first second)
