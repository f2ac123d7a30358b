-- What is done with the items of a draft.
use Rattle.std.specs.Prelude.{ℕ, List, slice_index_or, slice_set}
use Rattle.algebra.specs.declared.numbers.Numbers.{Numbers}
use Rattle.algebra.specs.declared.node.Node.{Node}
use Rattle.grammar.specs.declared.item.Item.{Item}
use Rattle.grammar.specs.Items.{item}

-- the items with another node at one of them; past the end they stay as they are
abbrev pub with_node : List Item → ℕ → Node Numbers → List Item
with_node is at n = slice_set is at (item n (slice_index_or is at (item n 0)).offset)
