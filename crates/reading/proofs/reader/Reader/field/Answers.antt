use Rattle.std.proofs.Common.{rules}
use Rattle.reading.proofs.Leaves.{field_first, field_second, field_over}
use Rattle.reading.proofs.reader.Reader.field.Goals as goal

pub returns-in_err-number : goal.returns-in_err-number
returns-in_err-number c = search (rules, field_first)

pub returns-in_err-mark : goal.returns-in_err-mark
returns-in_err-mark c = search (rules, field_second)

pub returns : goal.returns
returns c =
    let number = c.in_ok-number.ensures in
    record { small = number.small; over = field_over number.over c.in_ok-mark.ensures }
