use Rattle.std.proofs.Common.{◌≡◌, List, [], ◌++◌, drop}
use Rattle.algebra.specs.Score.{Placed}
use Rattle.normal.specs.Placing.{all_placed}
use Rattle.partners.specs.Choosing.{chosen}
use Rattle.partners.specs.Runs.{Noted}
use Rattle.partners.proofs.choosing.choose.Given as goal

abbrev pub invariant-loop-item : goal.invariant-loop-item
invariant-loop-item g l =
    (before : List Placed)
    × Noted g.K.Kind.model l.other before l.partners.sorted l.partners.spent
    × (l.out ++ chosen l.partnered l.other before (all_placed (drop l.item-index l.item-items)) ≡ l.initial.out ++ chosen l.partnered l.other [] l.list)
