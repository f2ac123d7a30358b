-- How many primitives there are among the items of a file.
use Rattle.std.specs.Prelude.{◌≡◌, ℕ, ◌≤◌, List, length, None, count_by}
use Rattle.grammar.specs.declared.item.Item.{Item}
use Rattle.grammar.specs.Loads.{holds_primitive, excess}

-- The primitives among items.
abbrev pub primitive_items : List Item → ℕ
primitive_items is = count_by (λ (i : Item). holds_primitive i.node) is

-- There is room for every node and every primitive, and this is the count of primitives.
pub record Counted (is : List Item) (count : ℕ) : Type 0 where
  pub room : excess 1023 170 is ≡ None
  pub counts : count ≡ primitive_items is
  pub few : count ≤ 170
  pub small : length is ≤ 1023
