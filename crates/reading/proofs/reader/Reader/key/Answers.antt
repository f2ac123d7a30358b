use Rattle.std.proofs.Common.{rules, [], ◌∙◌}
use Rattle.reading.proofs.Composition.{fault_map, same_stopped, passed_kept, faulty_kept}
use Rattle.reading.proofs.Steps.{has_first, has_only, no_mark, one_text, text_one, just_passed, key_more, key_fault}
use Rattle.reading.proofs.reader.Reader.key.Goals as goal

pub returns-in_err-mark : goal.returns-in_err-mark
returns-in_err-mark c =
    let inv = c.loop-b.invariant in
    search (
      rules,
      fault_map (λ o k. key_fault _ c.loop-b.b-index c.loop-b-test.true inv.passed (same_stopped (one_text _) (text_one _) (λ z h. h) k))
          (faulty_kept inv.text inv.section (no_mark _ _ (has_first _ []) c.in_err-mark.ensures)),
    )

pub loop-b-preserved : goal.loop-b-preserved
loop-b-preserved c =
    let inv = c.loop-b.invariant in
    let told = c.in_ok-mark.ensures in
    let over = told.taken.over in
    record {
      text = over.text ∙ inv.text;
      section = over.section ∙ inv.section;
      passed = key_more _ c.loop-b.b-index c.loop-b-test.true inv.passed (has_only _ _ told.one) (just_passed (passed_kept inv.text over.passed));
    }
