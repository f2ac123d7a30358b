use Rattle.std.proofs.Common.{rules, ◌+◌, codes, decimal, refl, ap, ◌∙◌, arith}
use Rattle.grammar.specs.Files.{signature, line}
use Rattle.grammar.specs.Refusals.{oversize}
use Rattle.refusals.specs.declared.refusal.Section.TheVariants as section
use Rattle.reading.proofs.Composition.{follows_any, fault_first, fault_then, faulty_kept, over_then, then_passed, passed_kept}
use Rattle.reading.proofs.Whole.{signature_refused, lines_refused, some_numbers, some_count, behind_two, behind_three}
use Rattle.reading.proofs.reader.head.Lines.read.Goals as goal

pub returns-then-text-gt-MOST_BYTES : goal.returns-then-text-gt-MOST_BYTES
returns-then-text-gt-MOST_BYTES c = oversize c.if-text-gt-MOST_BYTES.true

pub returns-in_err-key : goal.returns-in_err-key
returns-in_err-key c = search (rules, signature_refused _ (omega arith) _ c.in_err-key.ensures)

pub returns-in_err-kind : goal.returns-in_err-kind
returns-in_err-kind c =
    let sign = c.in_ok-key.ensures.over in
    search (
      rules,
      lines_refused _ _ (omega arith) sign.passed _
          (faulty_kept {y = section.Head} sign.text refl (fault_first (follows_any _) _ some_numbers c.in_err-kind.ensures)),
    )

pub returns-in_err-ticks : goal.returns-in_err-ticks
returns-in_err-ticks c =
    let sign = c.in_ok-key.ensures.over in
    search (
      rules,
      lines_refused _ _ (omega arith) sign.passed _
          (faulty_kept {y = section.Head} sign.text refl
          (fault_then (follows_any _) c.in_ok-kind.ensures.over (fault_first (follows_any _) _ some_count c.in_err-ticks.ensures))),
    )

pub returns-in_err-count : goal.returns-in_err-count
returns-in_err-count c =
    let sign = c.in_ok-key.ensures.over in
    search (
      rules,
      lines_refused _ _ (omega arith) sign.passed _
          (faulty_kept {y = section.Head} sign.text refl
          (fault_then (follows_any _) c.in_ok-kind.ensures.over (fault_then (follows_any _) c.in_ok-ticks.ensures.over c.in_err-count.ensures))),
    )

pub returns : goal.returns
returns c =
    let sign = c.in_ok-key.ensures.over in
    let kind = c.in_ok-kind.ensures in
    let ticks = c.in_ok-ticks.ensures in
    let count = c.in_ok-count.ensures in
    let lines = over_then (follows_any _) kind.over (over_then (follows_any _) ticks.over count.over) in
    let whole = then_passed (follows_any _) sign.passed (passed_kept sign.text lines.passed) in
    record {
      small = omega arith;
      within = record { name = kind.name; short = ticks.small; few = count.small };
      kind_at = kind.offset ∙ ap (λ n. n + 5) sign.passed.moved;
      ticks_at = behind_two signature (line (codes "kind=") c.in_ok-kind.kind.bytes.now) (codes "length=") _ _ _ sign.passed.moved kind.over.passed.moved ticks.offset;
      count_at =
          behind_three signature (line (codes "kind=") c.in_ok-kind.kind.bytes.now) (line (codes "length=") (decimal c.in_ok-ticks.ticks.value)) (codes "prims=") _ _ _ _
          sign.passed.moved kind.over.passed.moved ticks.over.passed.moved count.offset;
      end_at = omega (arith, whole.moved);
      inside = whole.within;
      split = whole.split;
      sure = whole.sure;
    }
