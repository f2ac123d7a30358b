-- The items of a file by their places.
use Rattle.std.proofs.Common.{ℕ, List, get_or}
use Rattle.algebra.specs.declared.node.Node.TheVariants.{Rest}
use Rattle.grammar.specs.declared.item.Item.{Item}
use Rattle.grammar.specs.Items.{item}

abbrev pub no_item : Item
no_item = item (Rest 0) 0

-- the item at a place
abbrev pub item_at : List Item → ℕ → Item
item_at is at = get_or is at no_item
