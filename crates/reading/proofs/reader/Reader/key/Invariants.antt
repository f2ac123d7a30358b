use Rattle.std.proofs.Common.{take}
use Rattle.reading.specs.Languages.{Just}
use Rattle.reading.specs.Passing.{Any, Over}
use Rattle.reading.proofs.reader.Reader.key.Given as goal

abbrev pub invariant-loop-b : goal.invariant-loop-b
invariant-loop-b l = Over (Just (take l.b-index l.wanted)) Any (take l.b-index l.wanted) l.initial.self l.self
