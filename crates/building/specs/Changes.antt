-- What a change makes of a score.
use Rattle.std.specs.Prelude.{ℕ, ◌-◌, min}
use Rattle.algebra.specs.Kind.{KindModel}
use Rattle.algebra.specs.Score.{Score}
use Rattle.algebra.specs.Cuts.{taken, dropped, reversed}
use Rattle.algebra.specs.Normal.{normal}
use Rattle.building.specs.declared.change.Change.{Change}
use Rattle.building.specs.declared.change.Change.TheVariants.{Reverse, Take, Drop, Normalise}

abbrev pub changed : KindModel → Change → Score → Score
changed K Reverse s = reversed K s
changed K (Take t) s = taken K t s
changed K (Drop t) s = dropped K t s
changed K Normalise s = normal K s

-- The length of the result, from that of the score.
abbrev pub changed_length : Change → ℕ → ℕ
changed_length Reverse n = n
changed_length (Take t) n = min n t
changed_length (Drop t) n = n - t
changed_length Normalise n = n
