-- The bytes that write gives are the one file of the held score.
use Rattle.std.proofs.Common.{◌≡◌, ℕ, List, length, take, drop, IfOk, Ok, Err, Result, sym, ap, ◌∙◌, subst, arith}
use Rattle.std.proofs.lemmas.List.{take_at}
use Rattle.algebra.specs.Kind.{KindModel, KindLaws}
use Rattle.algebra.specs.Score.{Score}
use Rattle.algebra.specs.Limits.{Holdable}
use Rattle.refusals.specs.declared.refusal.Refusal.{Refusal}
use Rattle.grammar.specs.Loads.{file_bytes}
use Rattle.grammar.proofs.Standing.{one_answer, read_exactly, written_back}
use Rattle.writing.specs.Writes.{written_answer, written_over}
use Rattle.rack.specs.Calls.{load_answer, put, score_read}
use Rattle.rack.specs.Written.{FileOf}

module _ (K : KindModel) (laws : KindLaws K) (s : Score) (holdable : Holdable K s) where
  pub file_of_lem : FileOf K s (file_bytes K s)
  file_of_lem = record {
    accepted = written_back K laws s holdable;
    returned = λ to before after answer l.
        let same = one_answer K (file_bytes K s) l.given (Ok s) l.gives (written_back K laws s holdable) in
        record {
          answer_is = l.answer_is ∙ ap (λ q. load_answer q before to) same;
          after_is = l.after_is ∙ ap (λ q. put answer before to (score_read q)) same;
        };
    only = λ text l. (read_exactly K text s l).1;
  }

  -- what stands in the buffer
  pub file_written : (r : Result ℕ Refusal) (room : ℕ) (buffer : List ℕ) → r ≡ written_answer (file_bytes K s) room → IfOk r (λ n. FileOf K s (take n (written_over r (file_bytes K s) buffer)))
  file_written (Err e) room buffer h = tt
  file_written (Ok n) room buffer h = subst (FileOf K s) (sym (take_at (file_bytes K s) (drop n buffer) n (counted n room h))) file_of_lem
    where
      counted : (n room : ℕ) → Ok n ≡ written_answer (file_bytes K s) room → length (file_bytes K s) ≡ n
      counted n room h = grind arith
