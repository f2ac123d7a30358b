use Rattle.std.proofs.Common.{◌≡◌, ℕ, ◌+◌, ◌^◌, ◌<◌, get_or, refl, arith, rules}
use Rattle.render.specs.Grid.{counted, ticks_in_cell, cells_used}
use Rattle.render.proofs.Ticks.{silent_before, silent_after, count_stays, new_more, cells-drawn}
use Rattle.render.proofs.grid.add_ticks.Goals as goal

pub loop-i-init : goal.loop-i-init
loop-i-init c = (
  λ k below.
      let fits : get_or c.args.cells.now k 0 < 2 ^ 32 = search rules in
      count_stays (get_or c.args.cells.now k 0) _ fits (silent_before c.args.width k c.args.entry c.requires (omega arith)),
  λ k above. refl,
)

pub loop-i-preserved : goal.loop-i-preserved
loop-i-preserved c =
    let i = c.loop-i.i in
    let ticks : c.ticks_within-ticks.result ≡ ticks_in_cell c.args.width i c.args.entry = c.ticks_within-ticks.ensures in
    let was : get_or c.loop-i.cells i 0 ≡ get_or c.args.cells.now i 0 = c.loop-i.invariant.1 i (omega arith) in
    new_more (λ k. counted (get_or c.args.cells.now k 0 + ticks_in_cell c.args.width k c.args.entry)) c.args.cells.now i c.loop-i.cells c.saturating_add.result
    (omega arith) (omega arith) c.loop-i.invariant

pub returns : goal.returns
returns c =
    let fits : (k : ℕ) → get_or c.args.cells.now k 0 < 2 ^ 32 = λ k. search rules in
    let drawn = cells-drawn (record { width = c.args.width; number = cells_used c.args.cells.now }) c.args.entry c.args.cells.now c.loop-i.cells c.loop-i.i
    refl c.loop-i.auto.cells (omega arith) fits
    (λ k rests within. silent_after c.args.width k c.end_of.result c.args.entry c.requires c.end_of.ensures (omega arith)) c.loop-i.invariant in
    record { used = drawn.0; others = drawn.1 }
