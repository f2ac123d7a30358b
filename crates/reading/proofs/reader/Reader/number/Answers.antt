use Rattle.std.proofs.Common.{rules, length, sym, refl, ap, ◌∙◌, subst, arith, true-eqb}
use Rattle.refusals.specs.declared.refusal.Section.{Section}
use Rattle.refusals.specs.declared.refusal.Refusal.TheVariants.{Misfit}
use Rattle.reading.specs.Taking.{BadDigit}
use Rattle.reading.proofs.Numbers.{number_passed, number_fault, number_none}
use Rattle.reading.proofs.Steps.{handed_bytes, handed_offset}
use Rattle.reading.proofs.reader.Reader.number.Goals as goal

pub returns-then-is_empty : goal.returns-then-is_empty
returns-then-is_empty c =
    let told = c.digits.ensures in
    let bytes = handed_bytes told.taken (λ l. refl) c.lexeme-run.ensures in
    let offset = handed_offset told.taken (λ l. refl) c.lexeme-run.ensures in
    record {
      offset = c.args.self.now.at;
      is = λ i. Misfit (told.taken.over.section i) (offset i);
      stopped = number_none c.args.limit (omega arith) told.taken.over.passed told.ends (ap length (sym bytes) ∙ true-eqb _ 0 c.if-is_empty.ensures);
    }

pub returns-in_err-value : goal.returns-in_err-value
returns-in_err-value c =
    let told = c.digits.ensures in
    let bytes = handed_bytes told.taken (λ l. refl) c.lexeme-run.ensures in
    let offset = handed_offset told.taken (λ l. refl) c.lexeme-run.ensures in
    let e = c.in_err-value.field-0.0 in
    let bad = subst (λ (s : Section). BadDigit c.args.limit told.digits c.args.self.now.at s e) told.taken.over.section
    (subst (λ o. BadDigit c.args.limit told.digits o c.digits.new.self.section e) offset
    (subst (λ ds. BadDigit c.args.limit ds c.lexeme-run.result.offset c.digits.new.self.section e) bytes c.in_err-value.ensures)) in
    search (rules, number_fault c.args.limit (omega arith) told.taken.over.passed told.ends _ _ bad)

pub returns : goal.returns
returns c =
    let told = c.digits.ensures in
    let bytes = handed_bytes told.taken (λ l. refl) c.lexeme-run.ensures in
    let over = told.taken.over in
    let number = c.in_ok-value.ensures in
    record {
      offset = handed_offset told.taken (λ l. refl) c.lexeme-run.ensures;
      small = number.0;
      over = record {
        text = over.text;
        section = over.section;
        passed = number_passed c.args.limit (omega arith) over.passed told.ends _ number.0 (sym bytes ∙ number.1);
      };
    }
