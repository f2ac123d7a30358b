-- What the texts of the table give on a rack of notes.
use Rattle.std.proofs.Common.{◌≡◌, ℕ, ◌≤◌, List, ◌++◌, length, get_or, drop, codes, decimal, refl, ap, arith}
use Rattle.std.specs.Fmt.{digits}
use Rattle.algebra.specs.Score.{Score, Score.rest, Score.primitive, Score.sequence, Score.parallel}
use Rattle.refusals.specs.declared.refusal.Refusal.TheVariants.{Misfit}
use Rattle.refusals.specs.declared.refusal.Section.TheVariants.{Body}
use Rattle.kinds.specs.Note.{note}
use Rattle.kinds.specs.Notes.{note_laws}
use Rattle.grammar.specs.Files.{print, Grammatical, File, print_head, ending, print_file, GrammaticalHead, GrammaticalFile, IsFile, FirstMisfit}
use Rattle.grammar.specs.Refusals.{Refused, misfit}
use Rattle.grammar.specs.Loads.{Loads, Loads.file, checked}
use Rattle.grammar.proofs.Runs.{Digit, digits_decimal}
use Rattle.grammar.proofs.Unique.{same_head}
use Rattle.reading.proofs.Runs.{front_run}
use Rattle.reading.proofs.Numbers.{front_le}
use Rattle.worked.specs.Worked.{note_body}

-- a file of notes by its numbers and its term
abbrev pub says : ℕ → ℕ → Score → File
says ticks count body = record { kind = note.name; ticks = ticks; count = count; body = body }

abbrev Limits : ℕ → ℕ → Score → Type 0
Limits ticks count body = (ticks ≤ 16777215) × (count ≤ 170) × Grammatical body

within : (ticks count : ℕ) (body : Score) → Limits ticks count body → GrammaticalFile (says ticks count body)
within ticks count body l = record { head = record { name = note_laws.named; short = l.0; few = l.1 }; body = l.2 }

-- it gives what its checks give
pub gives : (ticks count : ℕ) (body : Score) → Limits ticks count body → length (print_file (says ticks count body)) ≤ 16384
    → Loads note (print_file (says ticks count body)) (checked note (says ticks count body))
gives ticks count body l small = file (says ticks count body) (within ticks count body l) small refl refl

-- the head that all refused files of the table have
head : GrammaticalHead note.name 0 0
head = (within 0 0 (rest 0) (omega arith, omega arith, omega arith)).head

-- no term begins with a rest of 16,777,216 ticks
no_term : (body : Score) → Grammatical body → (more : List ℕ) → codes "r16777216" ++ more ≡ print body ++ ending → ⊥
unfolding digits
no_term (rest d) short more e =
    let run = front_run Digit (decimal 16777216) more (decimal d) ending (digits_decimal 16777216 (omega arith)) (λ digit. omega arith) (ap (drop 1) e) in
    omega (arith, front_le 16777216 d run.0 (omega arith) (omega arith) run.1)
no_term (primitive p) g more e = omega (arith, ap (λ l. get_or l 0 0) e)
no_term (sequence a b) g more e = omega (arith, ap (λ l. get_or l 0 0) e)
no_term (parallel a b) g more e = omega (arith, ap (λ l. get_or l 0 0) e)

-- and so no file with this head has such a body
no_file : (more : List ℕ) → IsFile (print_head note.name 0 0 ++ (codes "body=r16777216" ++ more)) → ⊥
no_file more f =
    let parts = same_head note.name f.file.kind 0 f.file.ticks 0 f.file.count (codes "body=r16777216" ++ more) _ head f.within.head f.printed in
    no_term f.file.body f.within.body more (ap (drop 5) parts.behind)

-- the last digit of such a rest is the first byte that cannot belong
last_digit : FirstMisfit IsFile (note_body "r16777216") 48
unfolding digits
last_digit = record {
  within = omega arith;
  belongs = (ending, record { file = says 0 0 (rest 1677721); within = within 0 0 (rest 1677721) (omega arith, omega arith, omega arith); printed = refl });
  misfit = λ _ begins. no_file begins.0 begins.1;
  refused = no_file ending;
}

pub rest_refused : Refused note.name (note_body "r16777216") (Misfit Body 48)
unfolding digits
rest_refused = misfit 48 (omega arith) (record { kind = note.name; ticks = 0; count = 0; rest = codes "body=r16777216" ++ ending; within = head; split = refl }) refl last_digit
