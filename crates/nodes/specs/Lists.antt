-- Lists of nodes in lent room.
use Rattle.std.specs.Prelude.{◌≡◌, ℕ, ◌≤◌, List, length, take, refl}
use Rattle.std.specs.Coded.{Coded, code_by, coded_list, coded_ℕ, coded×}
use Rattle.algebra.specs.declared.numbers.Numbers.{Numbers}
use Rattle.algebra.specs.declared.node.Node.{Node}
use Rattle.algebra.specs.Layout.{view}
use Rattle.nodes.specs.Codes.{node_code}

-- The nodes of a list, by the numbers of the primitives, and how many there is room for.
pub record Listed : Type 0 where
  pub items : List (Node Numbers)
  pub room : ℕ

-- Such values as pairs, from which they can be had back.
abbrev pub listed_code : Coded Listed
listed_code = code_by (List (Node Numbers) × ℕ) (coded× (coded_list node_code) coded_ℕ) (λ l. (l.items, l.room)) (λ p. record { items = p.0; room = p.1 }) (λ _. refl)

-- The first nodes of the room are those of the list.
abbrev pub listed : {P : Type 0} → (P → Numbers) → List (Node P) → ℕ → Listed
listed f room n = record { items = view f (take n room); room = length room }

-- The list is no longer than its room.
abbrev pub HasRoom : {X : Type 0} → List X → ℕ → Type 0
HasRoom room n = n ≤ length room

-- There is room for 1,023, and the list is no longer.
pub record Roomy (l : Listed) : Type 0 where
  pub room_is : l.room ≡ 1023
  pub within : length l.items ≤ 1023
