use Rattle.std.proofs.Common.{length, ap, ◌∙◌, arith}
use Rattle.rack.specs.Shelves.{at}
use Rattle.rack.proofs.Shelves.{length_shelf, held_holdable}
use Rattle.rack.proofs.rack.Rack.tell.Goals as goal

pub returns-in_err-known-clause-holds : goal.returns-in_err-known-clause-holds
returns-in_err-known-clause-holds g c = λ p s e.
    held_holdable g.K.Kind.model g.K.Kind.numbers_of c.self.inside.nodes.now c.self.inside.places c.self.invariant g.met.K.Kind.lawful.lengths g.met.K.Kind.legal p s (ap (λ l. at l p) c.self.view_is ∙ e)

pub returns-in_err-known-clause-places : goal.returns-in_err-known-clause-places
returns-in_err-known-clause-places g c = omega (arith, ap length c.self.view_is, length_shelf g.K.Kind.numbers_of c.self.inside.nodes.now c.self.inside.places)

pub returns-in_err-held-clause-holds : goal.returns-in_err-held-clause-holds
returns-in_err-held-clause-holds g c = λ p s e.
    held_holdable g.K.Kind.model g.K.Kind.numbers_of c.self.inside.nodes.now c.self.inside.places c.self.invariant g.met.K.Kind.lawful.lengths g.met.K.Kind.legal p s (ap (λ l. at l p) c.self.view_is ∙ e)

pub returns-in_err-held-clause-places : goal.returns-in_err-held-clause-places
returns-in_err-held-clause-places g c = omega (arith, ap length c.self.view_is, length_shelf g.K.Kind.numbers_of c.self.inside.nodes.now c.self.inside.places)

pub returns-clause-holds : goal.returns-clause-holds
returns-clause-holds g c = λ p s e.
    held_holdable g.K.Kind.model g.K.Kind.numbers_of c.self.inside.nodes.now c.self.inside.places c.self.invariant g.met.K.Kind.lawful.lengths g.met.K.Kind.legal p s (ap (λ l. at l p) c.self.view_is ∙ e)

pub returns-clause-places : goal.returns-clause-places
returns-clause-places g c = omega (arith, ap length c.self.view_is, length_shelf g.K.Kind.numbers_of c.self.inside.nodes.now c.self.inside.places)
