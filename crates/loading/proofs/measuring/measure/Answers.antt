use Rattle.std.proofs.Common.{ap, ◌∙◌, subst, arith, length-set}
use Rattle.grammar.specs.declared.item.Item.{Item}
use Rattle.grammar.specs.Items.{nodes_of}
use Rattle.nodes.specs.Spans.{Spanned}
use Rattle.loading.proofs.Rows.{legal_at}
use Rattle.loading.proofs.Tables.{last_left, parts_inside, one_more}
use Rattle.loading.proofs.measuring.measure.Goals as goal

pub legal_node_of-node-requires : goal.legal_node_of-node-requires
legal_node_of-node-requires g c =
    let inv = c.loop-at.invariant in
    let steps = c.in-Some.ensures.steps.1 in
    let last = last_left c.args.items.now _ _ _ _ _ inv.1 inv.2 steps.0 steps.1 in
    rw last.here (legal_at g.K.Kind.model c.args.items.now c.requires.legal _ last.inside)

pub at-span-requires : goal.at-span-requires
at-span-requires g c =
    let K = g.K.Kind.model in
    let is = c.args.items.now in
    let inv = c.loop-at.invariant in
    let steps = c.in-Some.ensures.steps.1 in
    let last = last_left is _ _ _ _ _ inv.1 inv.2 steps.0 steps.1 in
    parts_inside K is c.requires.whole c.requires.small c.loop-at.spans (omega (arith, c.requires.small)) c.in-Some.at last.inside (subst (Spanned K (nodes_of is) c.loop-at.spans) last.long inv.3)
    _ (c.legal_node_of-node.ensures ∙ ap (λ (i : Item). i.node) last.here)

pub loop-at-preserved : goal.loop-at-preserved
loop-at-preserved g c =
    let K = g.K.Kind.model in
    let is = c.args.items.now in
    let inv = c.loop-at.invariant in
    let steps = c.in-Some.ensures.steps in
    let last = last_left is _ _ _ _ _ inv.1 inv.2 steps.1.0 steps.1.1 in (
      omega (arith, length-set c.loop-at.spans c.in-Some.at c.at-span.result),
      steps.0 ∙ inv.1,
      last.front,
      subst (Spanned K (nodes_of is) _) last.fewer
          (one_more K is c.requires.whole c.requires.small c.loop-at.spans (omega (arith, c.requires.small)) c.in-Some.at last.inside (subst (Spanned K (nodes_of is) c.loop-at.spans) last.long inv.3)
          _ (c.legal_node_of-node.ensures ∙ ap (λ (i : Item). i.node) last.here) c.at-span.result c.at-span.ensures),
    )
