-- What writing a score's file answers, and what the buffer holds then.
use Rattle.std.specs.Prelude.{ℕ, cond, List, ◌++◌, length, drop, Ok, Err, Result, nat_le}
use Rattle.refusals.specs.declared.refusal.Refusal.{Refusal}
use Rattle.refusals.specs.declared.refusal.Refusal.TheVariants.{ShortBuffer}

-- How many bytes were written, where there is room for them; else how many there would be.
abbrev pub written_answer : List ℕ → ℕ → Result ℕ Refusal
written_answer bytes room = cond (nat_le (length bytes) room) (Ok (length bytes)) (Err (ShortBuffer (length bytes)))

-- The bytes stand at the buffer's beginning, and what follows them is as it was; a refusal changes nothing.
abbrev pub written_over : Result ℕ Refusal → List ℕ → List ℕ → List ℕ
written_over (Ok n) bytes buffer = bytes ++ drop n buffer
written_over (Err e) bytes buffer = buffer
