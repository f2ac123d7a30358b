use Rattle.std.proofs.Common.{◌≡◌, Some, sym, ap, ◌∙◌, subst, arith}
use Rattle.algebra.specs.Layout.{preorder, score_of}
use Rattle.algebra.specs.Limits.{Fits}
use Rattle.nodes.specs.Standing.{standing_score}
use Rattle.nodes.proofs.Shapes.{score_preorder}
use Rattle.rack.specs.Places.{Counts}
use Rattle.rack.specs.Shelves.{at}
use Rattle.rack.proofs.Shelves.{segment_within, at_empty, at_full, holding_yes, holding_no, lent_used, few_nodes}
use Rattle.rack.proofs.rack.Rack.held.Goals as goal

pub returns-in_default-clause-answer : goal.returns-in_default-clause-answer
returns-in_default-clause-answer g c =
    let p = c.args.place in
    sym (holding_no c.args.self.now p (ap (λ l. at l p) (sym c.self.view_is) ∙ at_empty g.K.Kind.numbers_of c.self.inside.nodes.now c.self.inside.places p (sym c.note_at.ensures ∙ c.in_default.is)))

pub some_of-nodes-requires : goal.some_of-nodes-requires
some_of-nodes-requires g c =
    let n = c.self.invariant.true c.args.place c.in-Some.noted (sym c.note_at.ensures ∙ c.in-Some.is) in
    omega (arith, segment_within c.self.inside.nodes.now c.args.place n.there, n.counts.nodes_are, n.fits.few_nodes)

pub returns-clause-answer : goal.returns-clause-answer
returns-clause-answer g c =
    let p = c.args.place in
    let noted = sym c.note_at.ensures ∙ c.in-Some.is in
    let n = c.self.invariant.true p c.in-Some.noted noted in
    sym (holding_yes c.args.self.now p n.score (ap (λ l. at l p) (sym c.self.view_is) ∙ at_full g.K.Kind.numbers_of c.self.inside.nodes.now c.self.inside.places g.K.Kind.model p c.in-Some.noted noted n))

pub returns-clause-held : goal.returns-clause-held
returns-clause-held g c =
    let f = g.K.Kind.numbers_of in
    let p = c.args.place in
    let noted = sym c.note_at.ensures ∙ c.in-Some.is in
    let n = c.self.invariant.true p c.in-Some.noted noted in
    let row = lent_used f c.self.inside.nodes.now p c.in-Some.noted.nodes c.some_of-nodes.ensures ∙ n.stands in
    let is = ap score_of row ∙ score_preorder n.score in
    ap (λ l. at l p) (sym c.self.view_is) ∙ at_full f c.self.inside.nodes.now c.self.inside.places g.K.Kind.model p c.in-Some.noted noted n ∙ ap Some (sym is)

pub invariant_of-result : goal.invariant_of-result
invariant_of-result g c =
    let f = g.K.Kind.numbers_of in
    let p = c.args.place in
    let n = c.self.invariant.true p c.in-Some.noted (sym c.note_at.ensures ∙ c.in-Some.is) in
    let row = lent_used f c.self.inside.nodes.now p c.in-Some.noted.nodes c.some_of-nodes.ensures ∙ n.stands in
    let is : standing_score f c.some_of-nodes.result.now ≡ n.score = ap score_of row ∙ score_preorder n.score in
    record { whole = row ∙ ap preorder (sym is); few = few_nodes f c.some_of-nodes.result.now n.score row n.fits; counts = subst (Counts c.in-Some.noted) (sym is) n.counts; fits = subst (Fits g.K.Kind.model) (sym is) n.fits }
