-- What comes of a rewriting.
use Rattle.std.specs.Prelude.{◌≡◌, ℕ, ◌+◌, ◌<◌, ◌≤◌, ◌++◌, length, Some, None, Ok, Err, Option}
use Rattle.algebra.specs.Score.{Score, nodes}
use Rattle.algebra.specs.Layout.{preorder}
use Rattle.nodes.specs.Lists.{Listed}
use Rattle.refusals.specs.declared.refusal.Refusal.{Refusal}
use Rattle.refusals.specs.declared.refusal.Refusal.TheVariants.{NoFit, TooMany}
use Rattle.refusals.specs.Checks.{Check}

-- A list has room for the nodes of a score, and they are put behind those in it.
pub record Written (s : Score) (xs ys : Listed) : Type 0 where
  pub room : length xs.items + nodes s ≤ xs.room
  pub row : ys.items ≡ xs.items ++ preorder s
  pub kept : ys.room ≡ xs.room

-- A score has more nodes than a list has room for: it is refused with their count, and the list stays as it was.
pub record Overfull (s : Score) (xs ys : Listed) (e : Refusal) : Type 0 where
  pub over : xs.room < length xs.items + nodes s
  pub refusal : e ≡ TooMany (nodes s)
  pub same : ys ≡ xs

-- What a step makes at a node is put into a list where it has room there. Where it makes nothing, the node is told.
abbrev pub Rewrote : ℕ → Option Score → Listed → Listed → Check → Type 0
Rewrote node None xs ys answer = (answer ≡ Err (NoFit node)) × (ys ≡ xs)
Rewrote node (Some s) xs ys (Ok done) = Written s xs ys
Rewrote node (Some s) xs ys (Err e) = Overfull s xs ys e
