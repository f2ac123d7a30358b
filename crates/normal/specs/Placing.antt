-- Placed primitives by their numbers, as the code has them.
use Rattle.std.specs.Prelude.{List, map}
use Rattle.std.specs.List.{AllByRecursion}
use Rattle.algebra.specs.Kind.{KindModel, LegalNumbers}
use Rattle.algebra.specs.Score.{Placed}
use Rattle.normal.specs.declared.placed.PlacedNumbers.{PlacedNumbers}

-- A placed primitive of the code as one of the algebra.
abbrev pub placed_of : PlacedNumbers → Placed
placed_of x = record { onset = x.onset; what = x.numbers }

-- A list of them.
abbrev pub all_placed : List PlacedNumbers → List Placed
all_placed xs = map placed_of xs

-- The numbers of each are legal.
abbrev pub AllLegal : KindModel → List Placed → Type 0
AllLegal K xs = AllByRecursion (λ x. LegalNumbers K x.what) xs
