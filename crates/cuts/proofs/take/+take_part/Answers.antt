use Rattle.std.proofs.Common.{◌++◌, sym, ap, ◌∙◌, arith}
use Rattle.algebra.specs.Layout.{preorder}
use Rattle.algebra.specs.Score.{nodes}
use Rattle.algebra.specs.Cuts.{taken}
use Rattle.nodes.specs.Scores.{part_at}
use Rattle.nodes.proofs.Lists.{put_long}
use Rattle.nodes.proofs.Standings.{pair_nodes}
use Rattle.cuts.proofs.Putting.{put_nodes, row_nodes, put_row}
use Rattle.cuts.proofs.Taking.{take_all, take_past, take_both}
use Rattle.cuts.proofs.take.+take_part.Goals as goal

pub extend-requires : goal.extend-requires
extend-requires g t c =
    let s = part_at c.args.score.now c.args.at in
    omega (arith, ap nodes (take_all g.K.Kind.model c.args.ticks s (omega (arith, c.length_at.ensures, c.if-length_at-ticks.true))), row_nodes g.K.Kind.numbers_of c.nodes_at.result.now s c.nodes_at.ensures, c.requires.room)

pub returns-then-length_at-ticks-clause-items : goal.returns-then-length_at-ticks-clause-items
returns-then-length_at-ticks-clause-items g t c =
    let s = part_at c.args.score.now c.args.at in
    put_row g.K.Kind.numbers_of c.nodes_at.result.now s c.nodes_at.ensures c.args.out.now.items c.extend.ensures.items
    ∙ ap (λ u. c.args.out.now.items ++ preorder u) (sym (take_all g.K.Kind.model c.args.ticks s (omega (arith, c.length_at.ensures, c.if-length_at-ticks.true))))

pub extend-requires-else-ticks-length : goal.extend-requires-else-ticks-length
extend-requires-else-ticks-length g t c =
    let K = g.K.Kind.model in
    let x = c.in-Pair-Sequence-default-default in
    let left = part_at c.args.score.now x.left in
    let right = part_at c.args.score.now x.right in
    let w = take_past K (part_at c.args.score.now c.args.at) left right x.field-0 c.args.ticks x.ensures.is (omega (arith, c.length_at.ensures, c.if-length_at-ticks.false)) c.length_at-length.result x.field-0-is c.length_at-length.ensures c.if-ticks-length.false in
    omega (arith, ap nodes w, put_long c.args.out.now.items _ c.push-else-ticks-length.ensures.items, row_nodes g.K.Kind.numbers_of c.nodes_at-else-ticks-length.result.now left c.nodes_at-else-ticks-length.ensures, c.push-else-ticks-length.ensures.room, c.requires.room)

pub take_part-requires-else-ticks-length : goal.take_part-requires-else-ticks-length
take_part-requires-else-ticks-length g t c κs within =
    let K = g.K.Kind.model in
    let x = c.in-Pair-Sequence-default-default in
    let left = part_at c.args.score.now x.left in
    let right = part_at c.args.score.now x.right in
    let w = take_past K (part_at c.args.score.now c.args.at) left right x.field-0 c.args.ticks x.ensures.is (omega (arith, c.length_at.ensures, c.if-length_at-ticks.false)) c.length_at-length.result x.field-0-is c.length_at-length.ensures c.if-ticks-length.false in
    let put = put_row g.K.Kind.numbers_of c.nodes_at-else-ticks-length.result.now left c.nodes_at-else-ticks-length.ensures c.push-else-ticks-length.new.self.items c.extend-else-ticks-length.ensures.items in (
      omega (arith, ap nodes x.ensures.is, pair_nodes x.field-0 left right),
      (within, (x.ensures.right_inside, omega (arith, ap nodes w, put_long c.args.out.now.items _ c.push-else-ticks-length.ensures.items, put_nodes c.push-else-ticks-length.new.self.items left put, c.push-else-ticks-length.ensures.room, c.extend-else-ticks-length.ensures.room, c.requires.room))),
    )

pub take_part-requires-in-Pair-Parallel-default-default-2 : goal.take_part-requires-in-Pair-Parallel-default-default-2
take_part-requires-in-Pair-Parallel-default-default-2 g t c κs within =
    let K = g.K.Kind.model in
    let x = c.in-Pair-Parallel-default-default in
    let left = part_at c.args.score.now x.left in
    let right = part_at c.args.score.now x.right in
    let w = take_both K (part_at c.args.score.now c.args.at) left right x.field-0 c.args.ticks x.ensures.is (omega (arith, c.length_at.ensures, c.if-length_at-ticks.false)) x.field-0-is in (
      omega (arith, ap nodes x.ensures.is, pair_nodes x.field-0 left right),
      (within, (x.ensures.right_inside, omega (arith, ap nodes w, put_long c.args.out.now.items _ c.push-in-Pair-Parallel-default-default.ensures.items, put_nodes c.push-in-Pair-Parallel-default-default.new.self.items (taken K c.args.ticks left) c.take_part-in-Pair-Parallel-default-default.ensures.items, c.push-in-Pair-Parallel-default-default.ensures.room, c.take_part-in-Pair-Parallel-default-default.ensures.room, c.requires.room))),
    )
