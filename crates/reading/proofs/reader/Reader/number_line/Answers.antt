use Rattle.std.proofs.Common.{rules, ℕ, decimal, refl, ◌∙◌, arith}
use Rattle.reading.specs.Languages.{Numeral}
use Rattle.reading.specs.Passing.{NoDigit}
use Rattle.reading.proofs.Lines.{line_key, line_word, line_end, line_over}
use Rattle.reading.proofs.reader.Reader.number_line.Goals as goal

newline : NoDigit 10
newline d = omega arith

some : (limit : ℕ) → Numeral limit (decimal 0)
some limit = (0, omega arith, refl)

pub returns-in_err-key : goal.returns-in_err-key
returns-in_err-key c =
    search (rules, line_key _ (Numeral c.args.limit) NoDigit newline _ (some _) c.args.self.now c.in_err-key.ensures)

pub returns-in_err-number : goal.returns-in_err-number
returns-in_err-number c =
    search (rules, line_word _ (Numeral c.args.limit) NoDigit newline _ (some _) c.in_ok-key.ensures.over c.in_err-number.ensures)

pub returns-in_err-key-2 : goal.returns-in_err-key-2
returns-in_err-key-2 c =
    search (rules, line_end _ (Numeral c.args.limit) NoDigit newline _ (some _) c.in_ok-key.ensures.over c.in_ok-number.ensures.over c.in_err-key-2.ensures)

pub returns : goal.returns
returns c =
    let key = c.in_ok-key.ensures.over in
    let number = c.in_ok-number.ensures in
    record {
      offset = number.offset ∙ key.passed.moved;
      small = number.small;
      over = line_over _ (Numeral c.args.limit) NoDigit newline _ (some _) key number.over c.in_ok-key-2.ensures.over;
    }
