use Rattle.std.proofs.Common.{rules}
use Rattle.reading.proofs.Leaves.{fields_1, fields_2, fields_3, fields_4, fields_over}
use Rattle.reading.proofs.reader.Reader.primitive.Goals as goal

pub returns-in_err-first : goal.returns-in_err-first
returns-in_err-first c = search (rules, fields_1)

pub returns-in_err-second : goal.returns-in_err-second
returns-in_err-second c = search (rules, fields_2)

pub returns-in_err-third : goal.returns-in_err-third
returns-in_err-third c = search (rules, fields_3 c.in_ok-first.ensures.over c.in_ok-second.ensures.over c.in_err-third.ensures)

pub returns-in_err-fourth : goal.returns-in_err-fourth
returns-in_err-fourth c =
    search (rules, fields_4 c.in_ok-first.ensures.over c.in_ok-second.ensures.over c.in_ok-third.ensures.over c.in_err-fourth.ensures)

pub returns : goal.returns
returns c =
    let a = c.in_ok-first.ensures in
    let b = c.in_ok-second.ensures in
    let d = c.in_ok-third.ensures in
    let e = c.in_ok-fourth.ensures in
    record {
      words = record { first = a.small; second = b.small; third = d.small; fourth = e.small };
      over = fields_over a.over b.over d.over e.over;
    }
