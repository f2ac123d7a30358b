use Rattle.std.proofs.Common.{take}
use Rattle.normal.proofs.Writings.{LinesStand}
use Rattle.normal.proofs.lines.write_lines.Given as goal

abbrev pub invariant-loop-item : goal.invariant-loop-item
invariant-loop-item g l = LinesStand g.K.Kind.model l.length l.initial.out l.out (take l.item-index l.rest)
