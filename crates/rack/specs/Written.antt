-- What the bytes that write gives mean to load.
use Rattle.std.specs.Prelude.{◌≡◌, ℕ, List, [], ◌∷◌, Ok}
use Rattle.algebra.specs.Kind.{KindModel}
use Rattle.algebra.specs.Score.{Score}
use Rattle.grammar.specs.Loads.{Loads}
use Rattle.rack.specs.Shelves.{Shelf}
use Rattle.refusals.specs.Checks.{Check, all}
use Rattle.rack.specs.Checks.{known, vacant}
use Rattle.rack.specs.Calls.{LoadedAt, put}

-- A loading of the score, whatever the rack: it is refused by the place alone, and else the score is there.
pub record Returned (s : Score) (to : ℕ) (before after : Shelf) (answer : Check) : Type 0 where
  pub answer_is : answer ≡ all (known before to ∷ vacant before to ∷ [])
  pub after_is : after ≡ put answer before to s

-- The bytes are the one file of a score: they are accepted, any loading of them on a rack of the kind is a loading of
-- that score, and no other text gives that score.
pub record FileOf (K : KindModel) (s : Score) (bytes : List ℕ) : Type 0 where
  pub accepted : Loads K bytes (Ok s)
  pub returned : (to : ℕ) (before after : Shelf) (answer : Check) → LoadedAt K bytes to before after answer → Returned s to before after answer
  pub only : (text : List ℕ) → Loads K text (Ok s) → text ≡ bytes
