use Rattle.std.proofs.Common.{None, length, set, ap, ◌∙◌, arith}
use Rattle.rack.proofs.Shelves.{length_shelf}
use Rattle.rack.proofs.Placing.{empty_sound, empty_shelf}
use Rattle.rack.proofs.rack.Rack.empty.Goals as goal

pub bounds-self-inside-place : goal.bounds-self-inside-place
bounds-self-inside-place g c =
    omega (arith, c.requires, ap length c.self.view_is, length_shelf g.K.Kind.numbers_of c.self.inside.nodes.now c.self.inside.places)

pub invariant_of-self : goal.invariant_of-self
invariant_of-self g c =
    let f = g.K.Kind.numbers_of in
    let ns = c.self.inside.nodes.now in
    empty_sound g.K.Kind.model f ns c.self.inside.places c.self.invariant c.args.place (omega (arith, c.requires, ap length c.self.view_is, length_shelf f ns c.self.inside.places))

pub returns : goal.returns
returns g c =
    let f = g.K.Kind.numbers_of in
    let ns = c.self.inside.nodes.now in
    empty_shelf g.K.Kind.model f ns c.self.inside.places c.self.invariant c.args.place (omega (arith, c.requires, ap length c.self.view_is, length_shelf f ns c.self.inside.places))
    ∙ ap (λ l. set l c.args.place None) c.self.view_is
