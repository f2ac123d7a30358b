-- What a renderer shows of a score.
use Rattle.std.specs.Prelude.{ℕ, List, map}
use Rattle.algebra.specs.Kind.{KindModel}
use Rattle.algebra.specs.Score.{Score, score_length, Placed, placed}
use Rattle.render.specs.declared.entry.Entry.{Entry}
use Rattle.render.specs.Drawings.{entered_all}

-- The entry of a placed primitive: its onset, its length and its four numbers.
abbrev pub entry_of : KindModel → Placed → Entry
entry_of K x = record { onset = x.onset; length = K.length_of x.what; numbers = x.what }

-- A picture that is started with a length, and into which each of a bag is entered once.
abbrev pub drawn : {P : Type 0} → (ℕ → P) → (Entry → P → P) → KindModel → ℕ → List Placed → P
drawn blank entered K n bag = entered_all entered (map (entry_of K) bag) (blank n)

-- The picture of a score: its length, and its bag.
abbrev pub drawn_score : {P : Type 0} → (ℕ → P) → (Entry → P → P) → KindModel → Score → P
drawn_score blank entered K s = drawn blank entered K (score_length K s) (placed K s)
