use Rattle.std.proofs.Common.{ap, ◌∙◌, arith}
use Rattle.std.proofs.lemmas.List.{length-map}
use Rattle.algebra.specs.Layout.{seen}
use Rattle.nodes.specs.declared.span.Span.{Span}
use Rattle.nodes.specs.Standing.{standing_score}
use Rattle.nodes.proofs.Parts.{some_node}
use Rattle.nodes.proofs.Standings.{stands_small, stands_long}
use Rattle.nodes.proofs.measure.length_of.Goals as goal

pub fill_spans-requires-clause-small : goal.fill_spans-requires-clause-small
fill_spans-requires-clause-small g c = stands_small g.K.Kind.numbers_of c.args.nodes.now c.requires

pub fill_spans-requires-clause-room : goal.fill_spans-requires-clause-room
fill_spans-requires-clause-room g c = stands_small g.K.Kind.numbers_of c.args.nodes.now c.requires

pub returns : goal.returns
returns g c =
    let f = g.K.Kind.numbers_of in
    let row = c.args.nodes.now in
    ap (λ (s : Span). s.length) (c.fill_spans.ensures 0 (omega arith) (omega (arith, stands_long f row c.requires, length-map row (seen f), some_node (standing_score f row))))
    ∙ omega (arith, c.requires.limited.short)
