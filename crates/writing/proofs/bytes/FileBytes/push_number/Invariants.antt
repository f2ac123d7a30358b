use Rattle.std.proofs.Common.{◌≡◌, ◌++◌, take}
use Rattle.writing.proofs.bytes.FileBytes.push_number.Given as goal

abbrev pub invariant-loop-digit : goal.invariant-loop-digit
invariant-loop-digit l = l.self ≡ l.fn.self ++ take l.digit-index l.digit-items
