use Rattle.std.proofs.Common.{◌++◌, sym, ap, ◌∙◌, arith}
use Rattle.algebra.specs.declared.node.Node.TheVariants.{Parallel}
use Rattle.algebra.specs.Score.{nodes}
use Rattle.algebra.specs.Cuts.{reversed}
use Rattle.nodes.specs.Joins.{joined}
use Rattle.nodes.specs.Scores.{part_at}
use Rattle.nodes.proofs.Lists.{put_long, put_both, put_pair}
use Rattle.nodes.proofs.Standings.{pair_nodes}
use Rattle.cuts.proofs.Putting.{put_nodes}
use Rattle.cuts.proofs.Reversing.{reverse_row, reverse_nodes}
use Rattle.cuts.proofs.reverse.+reverse_part.Goals as goal

pub reverse_part-requires-in-Pair-Sequence-default-default : goal.reverse_part-requires-in-Pair-Sequence-default-default
reverse_part-requires-in-Pair-Sequence-default-default g t c κs within =
    let K = g.K.Kind.model in
    let x = c.in-Pair-Sequence-default-default in
    let left = part_at c.args.score.now x.left in
    let right = part_at c.args.score.now x.right in
    let w = ap (λ s. nodes (reversed K s)) (x.ensures.is ∙ ap (λ k. joined k left right) x.field-0-is) in (
      omega (arith, ap nodes x.ensures.is, pair_nodes x.field-0 left right),
      (within, (x.ensures.left_inside, omega (arith, w, put_long c.args.out.now.items _ c.push-in-Pair-Sequence-default-default.ensures.items, put_nodes c.push-in-Pair-Sequence-default-default.new.self.items (reversed K right) c.reverse_part.ensures.items, c.push-in-Pair-Sequence-default-default.ensures.room, c.reverse_part.ensures.room, c.requires.room))),
    )

pub reverse_part-requires-in-Pair-Parallel-default-default : goal.reverse_part-requires-in-Pair-Parallel-default-default
reverse_part-requires-in-Pair-Parallel-default-default g t c κs within =
    let x = c.in-Pair-Parallel-default-default in
    let left = part_at c.args.score.now x.left in
    let right = part_at c.args.score.now x.right in
    let n = reverse_nodes g.K.Kind.model (part_at c.args.score.now c.args.at) left right x.field-0 _ _ x.ensures.is x.field-0-is c.length_at-first.ensures c.length_at-second.ensures in (
      omega (arith, ap nodes x.ensures.is, pair_nodes x.field-0 left right),
      (within, (x.ensures.left_inside, omega (arith, n, put_long c.args.out.now.items _ c.push-in-Pair-Parallel-default-default.ensures.items, put_long c.push-in-Pair-Parallel-default-default.new.self.items _ c.pad_into.ensures.items, c.push-in-Pair-Parallel-default-default.ensures.room, c.pad_into.ensures.room, c.requires.room))),
    )

pub pad_into-requires-in-Pair-Parallel-default-default : goal.pad_into-requires-in-Pair-Parallel-default-default
pad_into-requires-in-Pair-Parallel-default-default g t c =
    let K = g.K.Kind.model in
    let x = c.in-Pair-Parallel-default-default in
    let left = part_at c.args.score.now x.left in
    let n = reverse_nodes K (part_at c.args.score.now c.args.at) left (part_at c.args.score.now x.right) x.field-0 _ _ x.ensures.is x.field-0-is c.length_at-first.ensures c.length_at-second.ensures in
    omega (
      arith,
      n,
      put_long c.args.out.now.items _ c.push-in-Pair-Parallel-default-default.ensures.items,
      put_long c.push-in-Pair-Parallel-default-default.new.self.items _ c.pad_into.ensures.items,
      put_nodes c.pad_into.new.out.items (reversed K left) c.reverse_part-in-Pair-Parallel-default-default.ensures.items,
      c.push-in-Pair-Parallel-default-default.ensures.room,
      c.pad_into.ensures.room,
      c.reverse_part-in-Pair-Parallel-default-default.ensures.room,
      c.requires.room,
    )

pub reverse_part-requires-in-Pair-Parallel-default-default-2 : goal.reverse_part-requires-in-Pair-Parallel-default-default-2
reverse_part-requires-in-Pair-Parallel-default-default-2 g t c κs within =
    let K = g.K.Kind.model in
    let x = c.in-Pair-Parallel-default-default in
    let left = part_at c.args.score.now x.left in
    let right = part_at c.args.score.now x.right in
    let n = reverse_nodes K (part_at c.args.score.now c.args.at) left right x.field-0 _ _ x.ensures.is x.field-0-is c.length_at-first.ensures c.length_at-second.ensures in (
      omega (arith, ap nodes x.ensures.is, pair_nodes x.field-0 left right),
      (
        within,
        (
          x.ensures.right_inside,
          omega (
            arith,
            n,
            put_long c.args.out.now.items _ c.push-in-Pair-Parallel-default-default.ensures.items,
            put_long c.push-in-Pair-Parallel-default-default.new.self.items _ c.pad_into.ensures.items,
            put_nodes c.pad_into.new.out.items (reversed K left) c.reverse_part-in-Pair-Parallel-default-default.ensures.items,
            put_long c.reverse_part-in-Pair-Parallel-default-default.new.out.items _ c.pad_into-in-Pair-Parallel-default-default.ensures.items,
            c.push-in-Pair-Parallel-default-default.ensures.room,
            c.pad_into.ensures.room,
            c.reverse_part-in-Pair-Parallel-default-default.ensures.room,
            c.pad_into-in-Pair-Parallel-default-default.ensures.room,
            c.requires.room,
          ),
        ),
      ),
    )

pub returns-in-Pair-Parallel-default-default-clause-items : goal.returns-in-Pair-Parallel-default-default-clause-items
returns-in-Pair-Parallel-default-default-clause-items g t c =
    let K = g.K.Kind.model in
    let x = c.in-Pair-Parallel-default-default in
    let us = put_both c.push-in-Pair-Parallel-default-default.new.self.items _ _ c.pad_into.ensures.items c.reverse_part-in-Pair-Parallel-default-default.ensures.items in
    let vs = put_both c.reverse_part-in-Pair-Parallel-default-default.new.out.items _ _ c.pad_into-in-Pair-Parallel-default-default.ensures.items c.reverse_part-in-Pair-Parallel-default-default-2.ensures.items in
    put_pair c.args.out.now.items Parallel _ _ c.push-in-Pair-Parallel-default-default.ensures.items us vs
    ∙ ap (λ xs. c.args.out.now.items ++ xs) (sym (reverse_row K (part_at c.args.score.now c.args.at) (part_at c.args.score.now x.left) (part_at c.args.score.now x.right) x.field-0 _ _ x.ensures.is x.field-0-is c.length_at-first.ensures c.length_at-second.ensures))
