use Rattle.std.proofs.Common.{ap, ◌∙◌, arith}
use Rattle.std.proofs.lemmas.List.{length-map}
use Rattle.algebra.specs.Layout.{seen}
use Rattle.algebra.specs.Score.{score_length}
use Rattle.nodes.specs.declared.span.Span.{Span}
use Rattle.nodes.specs.Standing.{standing_score}
use Rattle.nodes.proofs.Parts.{some_node}
use Rattle.nodes.proofs.Standings.{nodes_long, limited_as}
use Rattle.nodes.proofs.score.Score.length.Goals as goal

pub returns-clause-length : goal.returns-clause-length
returns-clause-length g c =
    let K = g.K.Kind.model in
    let f = g.K.Kind.numbers_of in
    let row = c.self.inside.nodes.now in
    let t = c.self.invariant.tabled in
    ap (λ (s : Span). s.length) (t.spanned 0 (omega arith) (omega (arith, nodes_long K f row c.self.inside.spans.now t, length-map row (seen f), some_node (standing_score f row))))
    ∙ omega (arith, t.stands.limited.short)
    ∙ ap (score_length K) c.self.view_is

pub returns-clause-limited : goal.returns-clause-limited
returns-clause-limited g c = limited_as g.K.Kind.model g.K.Kind.numbers_of c.self.inside.nodes.now c.self.inside.spans.now c.self.invariant.tabled c.self.view_is
