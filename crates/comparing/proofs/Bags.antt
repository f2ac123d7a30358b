-- Lists with one bag.
use Rattle.std.proofs.Common.{◌≤◌, List, [], ◌∷◌, arith}
use Rattle.std.specs.List.{AllByRecursion}
use Rattle.algebra.specs.Bag.{count}
use Rattle.algebra.specs.Meaning.{SameBag}
use Rattle.algebra.specs.Score.{Placed, same_placed}
use Rattle.algebra.proofs.Bags.{count_self}
use Rattle.algebra.proofs.Complete.{placed_equality}
use Rattle.algebra.proofs.Differing.{all_count}

-- what holds of all of a bag holds of all of each bag within it
all_within : (P : Placed → Type 0) (xs ys : List Placed) → ((y : Placed) → count same_placed y ys ≤ count same_placed y xs) → AllByRecursion P xs → AllByRecursion P ys
all_within P xs [] h a = tt
all_within P xs (y ∷ ys) h a = (
  all_count P xs a y (omega (arith, h y, count_self placed_equality y ys)),
  all_within P xs ys (λ z. let k = h z in grind arith) a,
)

pub all_bag : (P : Placed → Type 0) (xs ys : List Placed) → SameBag xs ys → AllByRecursion P xs → AllByRecursion P ys
all_bag P xs ys same a = all_within P xs ys (λ y. omega (arith, same y)) a
