use Rattle.std.proofs.Common.{sym, ap, ◌∙◌}
use Rattle.rack.specs.Shelves.{at}
use Rattle.rack.proofs.Shelves.{at_empty, at_full, vacant_yes, vacant_no}
use Rattle.rack.proofs.rack.Rack.vacant.Goals as goal

pub returns-in-Some : goal.returns-in-Some
returns-in-Some g c =
    let p = c.args.place in
    let noted = sym c.note_at.ensures ∙ c.in-Some.is in
    let n = c.self.invariant.true p c.in-Some.field-0 noted in
    sym (vacant_no c.args.self.now p n.score (ap (λ l. at l p) (sym c.self.view_is) ∙ at_full g.K.Kind.numbers_of c.self.inside.nodes.now c.self.inside.places g.K.Kind.model p c.in-Some.field-0 noted n))

pub returns-in-None : goal.returns-in-None
returns-in-None g c =
    let p = c.args.place in
    sym (vacant_yes c.args.self.now p (ap (λ l. at l p) (sym c.self.view_is) ∙ at_empty g.K.Kind.numbers_of c.self.inside.nodes.now c.self.inside.places p (sym c.note_at.ensures ∙ c.in-None.is)))
