-- What a new score leaves in a list of nodes.
use Rattle.std.specs.Prelude.{ℕ, ◌++◌, take, Some, None, Ok, Err, Option, Result}
use Rattle.algebra.specs.Score.{Score, Score.rest}
use Rattle.algebra.specs.Layout.{preorder}
use Rattle.refusals.specs.declared.refusal.Refusal.{Refusal}
use Rattle.nodes.specs.Lists.{Listed}

-- The list after a score is put behind its nodes, where that is not refused.
abbrev pub laid : {X : Type 0} → Result X Refusal → Listed → Score → Listed
laid (Ok x) l s = record { items = l.items ++ preorder s; room = l.room }
laid (Err e) l s = l

-- The list after all but its first nodes are taken out, where an answer is a refusal.
abbrev pub kept : {X : Type 0} → Result X Refusal → ℕ → Listed → Listed
kept (Ok x) n l = l
kept (Err e) n l = record { items = take n l.items; room = l.room }

-- A score where there is one, and else an empty rest.
abbrev pub score_in : Option Score → Score
score_in (Some s) = s
score_in None = rest 0
