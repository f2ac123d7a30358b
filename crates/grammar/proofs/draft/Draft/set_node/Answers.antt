use Rattle.std.proofs.Common.{take, set, sym, ap, ◌∙◌, arith}
use lib.Seq.{take-set-lt}
use Rattle.std.proofs.lemmas.List.{get_or-take, get_or_default}
use Rattle.grammar.specs.Items.{item}
use Rattle.grammar.specs.Drafts.{with_node}
use Rattle.grammar.proofs.draft.Draft.set_node.Goals as goal

pub returns-then-at-self : goal.returns-then-at-self
returns-then-at-self c =
    let d = c.self.inside in
    let at = c.args.at in
    let n = c.args.node in
    take-set-lt d.count d.items at _ c.if-at-self.true
    ∙ ap (λ o. set (take d.count d.items) at (item n o))
    (ap (λ i. i.offset) (get_or_default d.items at _ (item n 0) (omega arith) ∙ sym (get_or-take d.count d.items at (item n 0) c.if-at-self.true)))
    ∙ ap (λ is. with_node is at n) c.self.view_is
