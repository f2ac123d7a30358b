use Rattle.std.proofs.Common.{◌≡◌, ◌+◌, ◌-◌, ◌≤◌, length, ◌∙◌, subst, arith}
use Rattle.std.proofs.lemmas.List.{length-map}
use Rattle.algebra.specs.Layout.{seen, view}
use Rattle.nodes.specs.Spans.{Spanned}
use Rattle.nodes.proofs.Readings.{shown}
use Rattle.nodes.proofs.Tables.{inside_at, span_at, spanned_more}
use Rattle.nodes.proofs.spans.fill_spans.Goals as goal

pub loop-at-init : goal.loop-at-init
loop-at-init g c = λ i l h. absurd (omega (arith, length-map c.args.row.now (seen g.K.Kind.numbers_of)))

pub at-span-requires : goal.at-span-requires
at-span-requires g c =
    let f = g.K.Kind.numbers_of in
    let row = c.args.row.now in
    let n = length-map row (seen f) in
    let at = c.loop-at.at - 1 in
    let next : c.loop-at.at ≡ at + 1 = omega arith in
    let behind = subst (Spanned g.K.Kind.model (view f row) c.loop-at.spans) next c.loop-at.invariant in
    inside_at g.K.Kind.model (view f row) c.requires.whole (omega (arith, n, c.requires.small)) c.loop-at.spans (omega arith) at behind (omega arith) _
    (shown f row c.requires.whole at (omega arith) c.index-row-at.result c.index-row-at.is)

pub loop-at-preserved : goal.loop-at-preserved
loop-at-preserved g c =
    let f = g.K.Kind.numbers_of in
    let row = c.args.row.now in
    let n = length-map row (seen f) in
    let at = c.loop-at.at - 1 in
    let next : c.loop-at.at ≡ at + 1 = omega arith in
    let behind = subst (Spanned g.K.Kind.model (view f row) c.loop-at.spans) next c.loop-at.invariant in
    let K = g.K.Kind.model in
    let room : length (view f row) ≤ length c.loop-at.spans = omega arith in
    spanned_more K (view f row) c.requires.whole (omega (arith, n, c.requires.small)) c.loop-at.spans room at behind c.at-span.result (omega arith)
    (c.at-span.ensures ∙ span_at K (view f row) c.requires.whole (omega (arith, n, c.requires.small)) c.loop-at.spans room at behind (omega arith) _
    (shown f row c.requires.whole at (omega arith) c.index-row-at.result c.index-row-at.is))
