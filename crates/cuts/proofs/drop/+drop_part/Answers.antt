use Rattle.std.proofs.Common.{◌++◌, sym, ap, ◌∙◌, arith}
use Rattle.algebra.specs.Layout.{preorder}
use Rattle.algebra.specs.Score.{nodes}
use Rattle.algebra.specs.Cuts.{dropped}
use Rattle.nodes.specs.Scores.{part_at}
use Rattle.nodes.proofs.Lists.{put_long}
use Rattle.nodes.proofs.Standings.{pair_nodes}
use Rattle.cuts.proofs.Putting.{put_nodes, row_nodes, put_row}
use Rattle.cuts.proofs.Dropping.{drop_none, drop_within, drop_both}
use Rattle.cuts.proofs.drop.+drop_part.Goals as goal

pub extend-requires : goal.extend-requires
extend-requires g t c =
    let s = part_at c.args.score.now c.args.at in
    omega (arith, ap nodes (drop_none g.K.Kind.model c.args.ticks s c.if-ticks-eq0.true), row_nodes g.K.Kind.numbers_of c.nodes_at.result.now s c.nodes_at.ensures, c.requires.room)

pub returns-then-ticks-eq0-clause-items : goal.returns-then-ticks-eq0-clause-items
returns-then-ticks-eq0-clause-items g t c =
    let s = part_at c.args.score.now c.args.at in
    put_row g.K.Kind.numbers_of c.nodes_at.result.now s c.nodes_at.ensures c.args.out.now.items c.extend.ensures.items ∙ ap (λ u. c.args.out.now.items ++ preorder u) (sym (drop_none g.K.Kind.model c.args.ticks s c.if-ticks-eq0.true))

pub extend-requires-else-length-ticks : goal.extend-requires-else-length-ticks
extend-requires-else-length-ticks g t c =
    let K = g.K.Kind.model in
    let x = c.in-Pair-Sequence-default-default in
    let left = part_at c.args.score.now x.left in
    let right = part_at c.args.score.now x.right in
    let w = drop_within K (part_at c.args.score.now c.args.at) left right x.field-0 c.args.ticks x.ensures.is c.if-ticks-eq0.false x.field-0-is (omega (arith, c.length_at-length.ensures, c.if-length-ticks.false)) in
    omega (
      arith,
      ap nodes w,
      put_long c.args.out.now.items _ c.push-else-length-ticks.ensures.items,
      put_nodes c.push-else-length-ticks.new.self.items (dropped K c.args.ticks left) c.drop_part-else-length-ticks.ensures.items,
      row_nodes g.K.Kind.numbers_of c.nodes_at-else-length-ticks.result.now right c.nodes_at-else-length-ticks.ensures,
      c.push-else-length-ticks.ensures.room,
      c.drop_part-else-length-ticks.ensures.room,
      c.requires.room,
    )

pub drop_part-requires-in-Pair-Parallel-default-default-2 : goal.drop_part-requires-in-Pair-Parallel-default-default-2
drop_part-requires-in-Pair-Parallel-default-default-2 g t c κs within =
    let K = g.K.Kind.model in
    let x = c.in-Pair-Parallel-default-default in
    let left = part_at c.args.score.now x.left in
    let right = part_at c.args.score.now x.right in
    let w = drop_both K (part_at c.args.score.now c.args.at) left right x.field-0 c.args.ticks x.ensures.is c.if-ticks-eq0.false x.field-0-is in (
      omega (arith, ap nodes x.ensures.is, pair_nodes x.field-0 left right),
      (within, (x.ensures.right_inside, omega (arith, ap nodes w, put_long c.args.out.now.items _ c.push-in-Pair-Parallel-default-default.ensures.items, put_nodes c.push-in-Pair-Parallel-default-default.new.self.items (dropped K c.args.ticks left) c.drop_part-in-Pair-Parallel-default-default.ensures.items, c.push-in-Pair-Parallel-default-default.ensures.room, c.drop_part-in-Pair-Parallel-default-default.ensures.room, c.requires.room))),
    )
