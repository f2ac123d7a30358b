use Rattle.std.proofs.Common.{ap, ◌∙◌, arith}
use Rattle.algebra.specs.Layout.{preorder, score_at}
use Rattle.algebra.specs.Score.{nodes}
use Rattle.nodes.specs.Standing.{standing_score}
use Rattle.nodes.proofs.Standings.{nodes_long, node_within, span_nodes, part_inside, part_score, part_standing}
use Rattle.nodes.proofs.score.Score.part.Goals as goal

pub offset_bounds-spans-at : goal.offset_bounds-spans-at
offset_bounds-spans-at g c = omega (arith, node_within g.K.Kind.model g.K.Kind.numbers_of c.self.inside.nodes.now c.self.inside.spans.now c.self.invariant.tabled c.self.view_is c.args.at c.requires, c.self.invariant.tabled.stands.limited.small)

pub bounds-spans-at : goal.bounds-spans-at
bounds-spans-at g c =
    let t = c.self.invariant.tabled in
    omega (arith, node_within g.K.Kind.model g.K.Kind.numbers_of c.self.inside.nodes.now c.self.inside.spans.now t c.self.view_is c.args.at c.requires, t.room)

pub some_of-requires : goal.some_of-requires
some_of-requires g c =
    let K = g.K.Kind.model in
    let f = g.K.Kind.numbers_of in
    let row = c.self.inside.nodes.now in
    let spans = c.self.inside.spans.now in
    let t = c.self.invariant.tabled in
    let h = node_within K f row spans t c.self.view_is c.args.at c.requires in
    omega (arith, part_inside K f row spans t c.args.at h, span_nodes K f row spans t c.args.at h)

pub some_of-requires-2 : goal.some_of-requires-2
some_of-requires-2 g c =
    let K = g.K.Kind.model in
    let f = g.K.Kind.numbers_of in
    let row = c.self.inside.nodes.now in
    let spans = c.self.inside.spans.now in
    let t = c.self.invariant.tabled in
    let h = node_within K f row spans t c.self.view_is c.args.at c.requires in
    omega (arith, part_inside K f row spans t c.args.at h, span_nodes K f row spans t c.args.at h, t.room)

pub invariant_of-result : goal.invariant_of-result
invariant_of-result g c =
    let K = g.K.Kind.model in
    let f = g.K.Kind.numbers_of in
    let row = c.self.inside.nodes.now in
    let spans = c.self.inside.spans.now in
    let t = c.self.invariant.tabled in
    let h = node_within K f row spans t c.self.view_is c.args.at c.requires in
    rw (c.some_of.ensures, c.some_of-2.ensures) (part_standing K f row spans t c.args.at h _ (span_nodes K f row spans t c.args.at h))

pub returns-clause-part : goal.returns-clause-part
returns-clause-part g c =
    let K = g.K.Kind.model in
    let f = g.K.Kind.numbers_of in
    let row = c.self.inside.nodes.now in
    let spans = c.self.inside.spans.now in
    let t = c.self.invariant.tabled in
    let h = node_within K f row spans t c.self.view_is c.args.at c.requires in
    ap (standing_score f) c.some_of.ensures ∙ part_score K f row spans t c.args.at h _ (span_nodes K f row spans t c.args.at h)
    ∙ ap (λ xs. score_at xs c.args.at) (t.stands.whole ∙ ap preorder c.self.view_is)

pub returns-clause-inside : goal.returns-clause-inside
returns-clause-inside g c =
    let K = g.K.Kind.model in
    let f = g.K.Kind.numbers_of in
    let row = c.self.inside.nodes.now in
    let spans = c.self.inside.spans.now in
    let t = c.self.invariant.tabled in
    let h = node_within K f row spans t c.self.view_is c.args.at c.requires in
    let is = ap (standing_score f) c.some_of.ensures ∙ part_score K f row spans t c.args.at h _ (span_nodes K f row spans t c.args.at h) in
    omega (arith, ap nodes is, part_inside K f row spans t c.args.at h, nodes_long K f row spans t, ap nodes c.self.view_is)
