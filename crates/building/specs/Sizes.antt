-- How large a score is, and how large one may be.
use Rattle.std.specs.Prelude.{ℕ, ◌&&◌, List, [], ◌∷◌, Ok, Result, nat_le}
use Rattle.algebra.specs.Kind.{KindModel}
use Rattle.algebra.specs.Score.{Score, nodes, primitives, score_length}
use Rattle.refusals.specs.declared.refusal.Refusal.{Refusal}
use Rattle.refusals.specs.declared.refusal.Refusal.TheVariants.{TooMany, TooLong}
use Rattle.refusals.specs.Checks.{Check, unless, all, followed}
use Rattle.building.specs.declared.size.Size.{Size}

abbrev pub size_of : KindModel → Score → Size
size_of K s = record { nodes = nodes s; primitives = primitives s; length = score_length K s }

-- A place has room for so many nodes and primitives.
abbrev pub few : ℕ → ℕ → Check
few n m = unless (nat_le n 1023 && nat_le m 170) (TooMany n)

-- A score may be so long.
abbrev pub short : ℕ → Check
short n = unless (nat_le n 16777215) (TooLong n)

-- A size is within the limits.
abbrev pub size_limits : Size → List Check
size_limits size = few size.nodes size.primitives ∷ short size.length ∷ []

-- A score is within the limits.
abbrev pub limits : KindModel → Score → List Check
limits K s = few (nodes s) (primitives s) ∷ short (score_length K s) ∷ []

-- What is answered of a new score: its size, where it is within the limits.
abbrev pub sized : KindModel → Score → Result Size Refusal
sized K s = followed (all (limits K s)) (Ok (size_of K s))
