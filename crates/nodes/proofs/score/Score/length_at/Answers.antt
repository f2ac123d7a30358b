use Rattle.std.proofs.Common.{ap, ◌∙◌, arith}
use Rattle.algebra.specs.Layout.{preorder, score_at}
use Rattle.algebra.specs.Score.{score_length}
use Rattle.nodes.proofs.Standings.{node_within, nodes_long, span_length}
use Rattle.nodes.proofs.score.Score.length_at.Goals as goal

pub offset_bounds-spans-at : goal.offset_bounds-spans-at
offset_bounds-spans-at g c =
    let t = c.self.invariant.tabled in
    omega (arith, node_within g.K.Kind.model g.K.Kind.numbers_of c.self.inside.nodes.now c.self.inside.spans.now t c.self.view_is c.args.at c.requires, t.stands.limited.small, nodes_long g.K.Kind.model g.K.Kind.numbers_of c.self.inside.nodes.now c.self.inside.spans.now t)

pub bounds-spans-at : goal.bounds-spans-at
bounds-spans-at g c =
    let t = c.self.invariant.tabled in
    omega (arith, node_within g.K.Kind.model g.K.Kind.numbers_of c.self.inside.nodes.now c.self.inside.spans.now t c.self.view_is c.args.at c.requires, t.room)

pub returns : goal.returns
returns g c =
    let K = g.K.Kind.model in
    let f = g.K.Kind.numbers_of in
    let row = c.self.inside.nodes.now in
    let spans = c.self.inside.spans.now in
    let t = c.self.invariant.tabled in
    let h = node_within K f row spans t c.self.view_is c.args.at c.requires in
    span_length K f row spans t c.args.at h ∙ ap (λ xs. score_length K (score_at xs c.args.at)) (t.stands.whole ∙ ap preorder c.self.view_is)
