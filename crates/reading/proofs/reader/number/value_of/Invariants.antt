use Rattle.reading.proofs.Numbers.{Sofar}
use Rattle.reading.proofs.reader.number.value_of.Given as goal

abbrev pub invariant-loop-i : goal.invariant-loop-i
invariant-loop-i l = Sofar l.limit l.run.bytes.now l.i l.value
