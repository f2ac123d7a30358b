-- The answers of calls as values.
use Rattle.std.specs.Prelude.{ℕ, Bool, true, false, Ok, Err, Result}
use Rattle.refusals.specs.declared.refusal.Refusal.{Refusal}
use Rattle.refusals.specs.Checks.{Check}
use Rattle.comparing.specs.declared.comparison.Comparison.{Comparison}
use Rattle.ledger.specs.declared.call.Reply.{Reply}
use Rattle.ledger.specs.declared.call.Reply.TheVariants.{Done, Told, Compared, Wrote}

-- What a call answers: a reply or a refusal.
abbrev pub Answer : Type 0
Answer = Result Reply Refusal

-- A call that answers nothing more.
abbrev pub done_of : Check → Answer
done_of (Ok u) = Ok Done
done_of (Err e) = Err e

abbrev pub told_of : Result (ℕ × ℕ × ℕ) Refusal → Answer
told_of (Ok t) = Ok (Told t.0 t.1 t.2)
told_of (Err e) = Err e

abbrev pub compared_of : Result Comparison Refusal → Answer
compared_of (Ok c) = Ok (Compared c)
compared_of (Err e) = Err e

abbrev pub wrote_of : Result ℕ Refusal → Answer
wrote_of (Ok n) = Ok (Wrote n)
wrote_of (Err e) = Err e

-- Whether a call was refused, which is all that the ledger is told of its answer.
abbrev pub refused : Answer → Bool
refused (Ok reply) = false
refused (Err e) = true
