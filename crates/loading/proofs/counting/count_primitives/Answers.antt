use Rattle.std.proofs.Common.{sym, subst, arith, IsSome}
use Rattle.loading.proofs.Firsts.{room_excess, some_excess}
use Rattle.loading.proofs.counting.count_primitives.Goals as goal
use Rattle.loading.proofs.counting.count_primitives.Goals.{else-items-le-MOST_NODES-via-then-items-le-MOST_NODES+else-count-le-MOST_PRIMITIVES, else-items-le-MOST_NODES-via-else-items-le-MOST_NODES}

pub returns-then-count-le-MOST_PRIMITIVES : goal.returns-then-count-le-MOST_PRIMITIVES
returns-then-count-le-MOST_PRIMITIVES c =
    let small = c.if-items-le-MOST_NODES.true in
    let few = c.if-count-le-MOST_PRIMITIVES.true in
    record { room = room_excess 1023 170 c.args.items.now small (omega (arith, few, c.primitives-count.ensures)); counts = c.primitives-count.ensures; few = few; small = small }

pub unwrap-offset-requires : goal.unwrap-offset-requires
unwrap-offset-requires c =
    subst IsSome (sym c.first_excess.ensures) (some_excess 1023 170 c.args.items.now (λ small few. elim c.else-items-le-MOST_NODES.branch [
      | else-items-le-MOST_NODES-via-then-items-le-MOST_NODES+else-count-le-MOST_PRIMITIVES w ↦ omega (arith, few, c.primitives-count.ensures, w.if-count-le-MOST_PRIMITIVES)
      | else-items-le-MOST_NODES-via-else-items-le-MOST_NODES w ↦ omega (arith, small, w.if-items-le-MOST_NODES)
    ]))
