-- What a list of calls answers, one after the other, and what they leave.
use Rattle.std.specs.Prelude.{◌≡◌, ℕ, List, [], ◌∷◌, length, Result}
use Rattle.refusals.specs.declared.refusal.Refusal.{Refusal}
use Rattle.algebra.specs.Kind.{KindModel}
use Rattle.algebra.specs.Score.{Score, Score.rest}
use Rattle.algebra.specs.Cuts.{taken, dropped, reversed}
use Rattle.algebra.specs.Normal.{normal}
use Rattle.grammar.specs.Loads.{Loads}
use Rattle.render.specs.declared.entry.Entry.{Entry}
use Rattle.drawing.specs.Drawn.{drawn_score}
use Rattle.writing.specs.Writes.{written_over}
use Rattle.nodes.specs.declared.join.Join.{Join}
use Rattle.nodes.specs.declared.join.Join.TheVariants as join
use Rattle.rack.specs.Shelves.{Shelf, score_held}
use Rattle.refusals.specs.Checks.{Check}
use Rattle.rack.specs.Calls.{put, cleared, clear_answer, tell_answer, load_answer, score_read, bytes_at, write_answer}
use Rattle.rack.specs.Building.{rest_answer, joined_at, join_answer, make_answer}
use Rattle.rack.specs.Comparing.{compare_answer, normal_bytes_at, write_normal_answer}
use Rattle.rack.specs.Drawing.{drawn_over}
use Rattle.building.specs.Rows.{score_in}
use Rattle.building.specs.Steps.{step_named}
use Rattle.rack.specs.Steps.{stepped_at, rewrite_answer}
use Rattle.ledger.specs.declared.call.Call.{Call}
use Rattle.ledger.specs.declared.call.Call.TheVariants as call
use Rattle.ledger.specs.Answers.{Answer, done_of, told_of, compared_of, wrote_of}

-- A renderer at its settings, by the pictures it makes.
pub record RendererAt (P : Type 0) : Type 0 where
  pub blank : ℕ → P
  pub entered : Entry → P → P

-- What calls find and leave: the rack's places, the caller's buffer, and the picture of the caller's renderer.
pub record State (P : Type 0) : Type 0 where
  pub shelf : Shelf
  pub buffer : List ℕ
  pub picture : P

-- The state of a rack, a buffer and a picture.
abbrev pub state_of : {P : Type 0} → Shelf → List ℕ → P → State P
state_of shelf buffer picture = record { shelf = shelf; buffer = buffer; picture = picture }

-- A renderer at some settings.
abbrev pub renderer_at : {S P : Type 0} → (S → ℕ → P) → (S → Entry → P → P) → S → RendererAt P
renderer_at blank entered settings = record { blank = blank settings; entered = entered settings }

-- A call gave one answer and left one state.
pub record Gave {P : Type 0} (answer : Answer) (state : State P) (a : Answer) (s : State P) : Type 0 where
  pub answer_is : a ≡ answer
  pub state_is : s ≡ state

-- A state with other places.
abbrev pub shelved : {P : Type 0} → State P → Shelf → State P
shelved s shelf = record { shelf = shelf; buffer = s.buffer; picture = s.picture }

-- A call that puts a score at a place, by its checks.
abbrev pub Puts : {P : Type 0} → State P → Check → ℕ → Score → Answer → State P → Type 0
Puts s check to score a t = Gave (done_of check) (shelved s (put check s.shelf to score)) a t

-- A call that makes a score of the one at a place.
abbrev pub Makes : {P : Type 0} → KindModel → State P → ℕ → ℕ → Score → Answer → State P → Type 0
Makes K s to source result a t = Puts s (make_answer K s.shelf to source result) to result a t

-- A join.
abbrev pub Joins : {P : Type 0} → KindModel → Join → State P → ℕ → ℕ → ℕ → Answer → State P → Type 0
Joins K join s to x y a t = Puts s (join_answer K join s.shelf to x y) to (joined_at join s.shelf x y) a t

-- A call that writes a file into the buffer.
abbrev pub Writes : {P : Type 0} → State P → Result ℕ Refusal → List ℕ → Answer → State P → Type 0
Writes s r bytes a t = Gave (wrote_of r) (record { shelf = s.shelf; buffer = written_over r bytes s.buffer; picture = s.picture }) a t

-- What a call answers and leaves: just what the rack's own call does.
abbrev pub Did : {P : Type 0} → KindModel → RendererAt P → State P → Call → Answer → State P → Type 0
Did K R s (call.Load to text) a t = (given : Result Score Refusal) × Loads K text.now given × Puts s (load_answer given s.shelf to) to (score_read given) a t
Did K R s (call.Rest to ticks) a t = Puts s (rest_answer s.shelf to ticks) to (rest ticks) a t
Did K R s (call.JoinSequence to x y) a t = Joins K join.Sequence s to x y a t
Did K R s (call.JoinParallel to x y) a t = Joins K join.Parallel s to x y a t
Did K R s (call.Reverse to x) a t = Makes K s to x (reversed K (score_held s.shelf x)) a t
Did K R s (call.Take to x ticks) a t = Makes K s to x (taken K ticks (score_held s.shelf x)) a t
Did K R s (call.Drop to x ticks) a t = Makes K s to x (dropped K ticks (score_held s.shelf x)) a t
Did K R s (call.Normalise to x) a t = Makes K s to x (normal K (score_held s.shelf x)) a t
Did K R s (call.Rewrite place node rule way split) a t =
    Puts s (rewrite_answer K s.shelf place node rule way split) place (score_in (stepped_at K s.shelf place node (step_named rule way split))) a t
Did K R s (call.Clear place) a t = Gave (done_of (clear_answer s.shelf place)) (shelved s (cleared (clear_answer s.shelf place) s.shelf place)) a t
Did K R s (call.Tell place) a t = Gave (told_of (tell_answer K s.shelf place)) s a t
Did K R s (call.Compare x y) a t = Gave (compared_of (compare_answer K s.shelf x y)) s a t
Did K R s (call.Write place) a t = Writes s (write_answer K s.shelf place (length s.buffer)) (bytes_at K s.shelf place) a t
Did K R s (call.WriteNormal place model) a t = Writes s (write_normal_answer K s.shelf place model (length s.buffer)) (normal_bytes_at K s.shelf place model) a t
Did K R s (call.Draw place) a t =
    let r = clear_answer s.shelf place in
    Gave (done_of r) (record { shelf = s.shelf; buffer = s.buffer; picture = drawn_over r (drawn_score R.blank R.entered K (score_held s.shelf place)) s.picture }) a t

-- A run: calls one after the other, as many as have answers, each on what the one before it left.
abbrev pub Ran : {P : Type 0} → KindModel → RendererAt P → State P → List Call → List Answer → State P → Type 0
Ran K R s [] answers t = t ≡ s
Ran K R s (call ∷ calls) [] t = t ≡ s
Ran {P} K R s (call ∷ calls) (answer ∷ answers) t = (next : State P) × Did K R s call answer next × Ran K R next calls answers t
