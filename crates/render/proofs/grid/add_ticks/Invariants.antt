-- The cells so far have gained their ticks, and the others are as they were.
use Rattle.std.proofs.Common.{◌+◌, get_or}
use Rattle.render.specs.Grid.{counted, ticks_in_cell}
use Rattle.render.proofs.Ticks.{NewTo}
use Rattle.render.proofs.grid.add_ticks.Given as goal

abbrev pub invariant-loop-i : goal.invariant-loop-i
invariant-loop-i l = NewTo (λ i. counted (get_or l.initial.cells i 0 + ticks_in_cell l.width i l.entry)) l.initial.cells l.i l.cells
