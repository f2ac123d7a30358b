-- The order of placed primitives, as the code has it.
use Rattle.std.specs.Prelude.{◌≡◌, cond, List, [], ◌∷◌}
use Rattle.std.specs.declared.cmp.Ordering.TheVariants.{Less, Equal, Greater}
use Rattle.std.specs.declared.cmp.Ordering.{Ordering}
use Rattle.std.specs.List.{AllByRecursion}
use Rattle.algebra.specs.declared.numbers.Numbers.{Numbers}
use Rattle.algebra.specs.Kind.{KindModel, smaller_first}
use Rattle.algebra.specs.Score.{Placed}
use Rattle.algebra.specs.Compare.{compare_placed}
use Rattle.normal.specs.declared.placed.PlacedNumbers.{PlacedNumbers}
use Rattle.normal.specs.Placing.{AllLegal}

-- An order of all numbers: the kind's of those that are legal, and the others last.
abbrev pub any_numbers : KindModel → Numbers → Numbers → Ordering
any_numbers K p q = cond (K.legal p) (cond (K.legal q) (K.compare_of p q) Less) (cond (K.legal q) Greater Equal)

-- By onset, and at one onset by that order.
abbrev pub any_order : KindModel → PlacedNumbers → PlacedNumbers → Ordering
any_order K x y = smaller_first x.onset y.onset (any_numbers K x.numbers y.numbers)

-- The second does not come before the first.
abbrev pub NotBefore : KindModel → Placed → Placed → Type 0
NotBefore K x y = compare_placed K y x ≡ Less → ⊥

-- A list in order: none comes before one that stands ahead of it.
abbrev pub Sorted : KindModel → List Placed → Type 0
Sorted K [] = Unit {0}
Sorted K (x ∷ xs) = AllByRecursion (NotBefore K x) xs × Sorted K xs

-- Placed primitives with legal numbers, in order.
pub record InOrder (K : KindModel) (xs : List Placed) : Type 0 where
  pub legal : AllLegal K xs
  pub sorted : Sorted K xs
