-- Those of a list that have a partner in another, and those that have none.
use Rattle.std.specs.Prelude.{Bool, true, false, List}
use Rattle.algebra.specs.Bag.{partnered, unpartnered}
use Rattle.algebra.specs.Score.{Placed, same_placed}

-- Those that have a partner, or those that have none, as they stand in the list.
abbrev pub chosen : Bool → List Placed → List Placed → List Placed → List Placed
chosen true other before xs = partnered same_placed other before xs
chosen false other before xs = unpartnered same_placed other before xs
