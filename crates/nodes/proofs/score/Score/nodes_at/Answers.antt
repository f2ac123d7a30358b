use Rattle.std.proofs.Common.{ap, ◌∙◌, arith}
use Rattle.algebra.specs.Layout.{preorder, score_at, view}
use Rattle.nodes.proofs.Standings.{node_within, nodes_long, span_nodes, part_inside, part_row}
use Rattle.nodes.proofs.score.Score.nodes_at.Goals as goal

pub offset_bounds-self-inside-at : goal.offset_bounds-self-inside-at
offset_bounds-self-inside-at g c =
    let t = c.self.invariant.tabled in
    omega (arith, node_within g.K.Kind.model g.K.Kind.numbers_of c.self.inside.nodes.now c.self.inside.spans.now t c.self.view_is c.args.at c.requires, t.stands.limited.small, nodes_long g.K.Kind.model g.K.Kind.numbers_of c.self.inside.nodes.now c.self.inside.spans.now t)

pub bounds-self-inside-at : goal.bounds-self-inside-at
bounds-self-inside-at g c =
    let t = c.self.invariant.tabled in
    omega (arith, node_within g.K.Kind.model g.K.Kind.numbers_of c.self.inside.nodes.now c.self.inside.spans.now t c.self.view_is c.args.at c.requires, t.room)

pub some_of-requires : goal.some_of-requires
some_of-requires g c =
    let K = g.K.Kind.model in
    let f = g.K.Kind.numbers_of in
    let row = c.self.inside.nodes.now in
    let spans = c.self.inside.spans.now in
    let t = c.self.invariant.tabled in
    let h = node_within K f row spans t c.self.view_is c.args.at c.requires in
    omega (arith, part_inside K f row spans t c.args.at h, span_nodes K f row spans t c.args.at h)

pub returns : goal.returns
returns g c =
    let K = g.K.Kind.model in
    let f = g.K.Kind.numbers_of in
    let row = c.self.inside.nodes.now in
    let spans = c.self.inside.spans.now in
    let t = c.self.invariant.tabled in
    let h = node_within K f row spans t c.self.view_is c.args.at c.requires in
    ap (view f) c.some_of.ensures ∙ part_row K f row spans t c.args.at h _ (span_nodes K f row spans t c.args.at h)
    ∙ ap (λ xs. preorder (score_at xs c.args.at)) (t.stands.whole ∙ ap preorder c.self.view_is)
