use Rattle.std.proofs.Common.{◌-◌, length, drop, sym, ap, ◌∙◌, arith}
use Rattle.std.proofs.lemmas.List.{length-map, length-take, length-drop}
use Rattle.algebra.specs.Layout.{seen, preorder}
use Rattle.nodes.proofs.Lists.{put_long}
use Rattle.nodes.proofs.Parts.{length_preorder}
use Rattle.building.specs.Rows.{laid, score_in}
use Rattle.building.specs.Steps.{stepped_size}
use Rattle.building.proofs.Putting.{put_behind, kept_laid}
use Rattle.building.proofs.Stepping.{step_done}
use Rattle.building.proofs.rewrite.rewrite.Goals as goal

pub size_within-size-requires : goal.size_within-size-requires
size_within-size-requires g c =
    let d = step_done g.K.Kind.model c.args.step c.args.node c.args.score.now c.args.out.now c.rewrite_into.new.out c.in_ok-rewrite_into.ensures in
    let row = c.as_slice.result.now in
    let rest = drop c.len-before.result row in
    omega (
      arith,
      put_long c.args.out.now.items (preorder d.result) d.row,
      length_preorder d.result,
      d.few,
      c.length.ensures.limited.small,
      c.len-before.ensures.count,
      ap length c.as_slice.ensures.nodes,
      length-map row (seen g.K.Kind.numbers_of),
      length-drop c.len-before.result row,
      length-take (length row - c.len-before.result) rest,
    )

pub returns-clause-answer : goal.returns-clause-answer
returns-clause-answer g c =
    let K = g.K.Kind.model in
    let d = step_done K c.args.step c.args.node c.args.score.now c.args.out.now c.rewrite_into.new.out c.in_ok-rewrite_into.ensures in
    c.size_within-size.ensures d.result (put_behind c.args.out.now c.rewrite_into.new.out d.result _ c.len-before.ensures.count d.row g.K.Kind.numbers_of c.as_slice.result.now c.as_slice.ensures.nodes) (c.length.ensures.length ∙ d.length)
    ∙ sym (ap (stepped_size K c.args.node) d.is)

pub returns-clause-after : goal.returns-clause-after
returns-clause-after g c =
    let K = g.K.Kind.model in
    let d = step_done K c.args.step c.args.node c.args.score.now c.args.out.now c.rewrite_into.new.out c.in_ok-rewrite_into.ensures in
    c.undo_refused.ensures ∙ kept_laid c.args.out.now c.rewrite_into.new.out d.result _ c.len-before.ensures.count d.row c.size_within-size.result d.room
    ∙ sym (ap (λ o. laid c.size_within-size.result c.args.out.now (score_in o)) d.is)
