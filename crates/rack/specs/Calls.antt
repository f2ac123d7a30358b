-- What each call on a rack answers, and what the places and the buffer then hold.
use Rattle.std.specs.Prelude.{◌≡◌, ℕ, List, [], ◌∷◌, Some, None, Ok, Err, Result, slice_set}
use Rattle.algebra.specs.Kind.{KindModel}
use Rattle.algebra.specs.Score.{Score, Score.rest, nodes, primitives, score_length}
use Rattle.refusals.specs.declared.refusal.Refusal.{Refusal}
use Rattle.grammar.specs.Loads.{Loads, file_bytes}
use Rattle.writing.specs.Writes.{written_answer}
use Rattle.rack.specs.Shelves.{Shelf, score_held}
use Rattle.refusals.specs.Checks.{Check, passed, all, followed}
use Rattle.rack.specs.Checks.{known, holding, vacant}

-- The shelf after a call that puts a score at a place where it is not refused.
abbrev pub put : Check → Shelf → ℕ → Score → Shelf
put (Ok u) shelf p s = slice_set shelf p (Some s)
put (Err e) shelf p s = shelf

-- The shelf after a call that empties a place where it is not refused.
abbrev pub cleared : Check → Shelf → ℕ → Shelf
cleared (Ok u) shelf p = slice_set shelf p None
cleared (Err e) shelf p = shelf

-- Clear: 21, 22.
abbrev pub clear_answer : Shelf → ℕ → Check
clear_answer shelf p = all (known shelf p ∷ holding shelf p ∷ [])

-- Tell: length, nodes and primitives together; 21, 22.
abbrev pub told : KindModel → Score → ℕ × ℕ × ℕ
told K s = (score_length K s, nodes s, primitives s)

abbrev pub tell_answer : KindModel → Shelf → ℕ → Result (ℕ × ℕ × ℕ) Refusal
tell_answer K shelf p = followed (clear_answer shelf p) (Ok (told K (score_held shelf p)))

-- Load: what the text gives, and then 21 and 23 for the destination.
abbrev pub file_check : Result Score Refusal → Check
file_check (Ok s) = passed
file_check (Err e) = Err e

abbrev pub score_read : Result Score Refusal → Score
score_read (Ok s) = s
score_read (Err e) = rest 0

abbrev pub load_answer : Result Score Refusal → Shelf → ℕ → Check
load_answer given shelf to = all (file_check given ∷ known shelf to ∷ vacant shelf to ∷ [])

-- A text was loaded at a place, or refused: by what the text gives, an answer and the shelf after it.
pub record LoadedAt (K : KindModel) (text : List ℕ) (to : ℕ) (before after : Shelf) (answer : Check) : Type 0 where
  pub given : Result Score Refusal
  pub gives : Loads K text given
  pub answer_is : answer ≡ load_answer given before to
  pub after_is : after ≡ put answer before to (score_read given)

-- Write: the held score's file from the start of the buffer, with its number of bytes; 21, 22, 28.
abbrev pub bytes_at : KindModel → Shelf → ℕ → List ℕ
bytes_at K shelf p = file_bytes K (score_held shelf p)

abbrev pub write_answer : KindModel → Shelf → ℕ → ℕ → Result ℕ Refusal
write_answer K shelf p room = followed (clear_answer shelf p) (written_answer (bytes_at K shelf p) room)
