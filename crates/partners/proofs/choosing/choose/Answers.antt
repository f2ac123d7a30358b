use Rattle.std.proofs.Common.{[], ◌∙◌, arith}
use Rattle.std.proofs.lemmas.List.{length-append}
use Rattle.normal.proofs.Placings.{legal_at}
use Rattle.partners.specs.Choosing.{chosen}
use Rattle.partners.proofs.Choices.{room, one_more, none_more}
use Rattle.partners.proofs.choosing.choose.Goals as goal
use Rattle.partners.proofs.choosing.choose.Goals.{then-spend-partnered, else-spend-partnered}

pub spend-requires : goal.spend-requires
spend-requires g c = legal_at g.K.Kind.model c.items-item-items.result.now c.loop-item.item-index _ (omega arith) c.items-item-items.ensures.legal

pub push-requires : goal.push-requires
push-requires g c =
    let (before, noted, stand) = c.loop-item.invariant in
    let r = room c.args.partnered c.args.other.now before c.items-item-items.result.now c.loop-item.item-index _ (omega arith) c.spend.result (c.spend.ensures.answer_is _ before noted) c.loop-item.out _ stand c.if-spend-partnered.true in
    record {
      room = omega (arith, length-append c.args.out.now (chosen c.args.partnered c.args.other.now [] c.args.list.now), c.requires);
      legal = legal_at g.K.Kind.model c.items-item-items.result.now c.loop-item.item-index _ (omega arith) c.items-item-items.ensures.legal;
    }

pub loop-item-preserved : goal.loop-item-preserved
loop-item-preserved g c =
    let (before, noted, stand) = c.loop-item.invariant in
    let items = c.items-item-items.result.now in
    let i = c.loop-item.item-index in
    let has = c.spend.ensures.answer_is _ before noted in (
      _,
      c.spend.ensures.after_is _ before noted,
      elim c.if-spend-partnered.branch [
        | then-spend-partnered w ↦ one_more c.args.partnered c.args.other.now before items i _ (omega arith) c.spend.result has c.loop-item.out _ stand w.if-spend-partnered.true (w.out-is ∙ w.push.ensures)
        | else-spend-partnered w ↦ none_more c.args.partnered c.args.other.now before items i _ (omega arith) c.spend.result has c.loop-item.out _ stand w.if-spend-partnered.false w.out-is
      ],
    )
