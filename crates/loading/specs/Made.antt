-- Nodes of a kind, by their numbers.
use Rattle.std.specs.Prelude.{cond, Some, None, Option}
use Rattle.algebra.specs.declared.numbers.Numbers.{Numbers}
use Rattle.algebra.specs.declared.node.Node.{Node}
use Rattle.algebra.specs.Kind.{KindModel}
use Rattle.algebra.specs.Layout.{seen}
use Rattle.grammar.specs.Loads.{legal_node}

-- An answer by the node's numbers.
abbrev pub seen_node : {P : Type 0} → (P → Numbers) → Option (Node P) → Option (Node Numbers)
seen_node f (Some n) = Some (seen f n)
seen_node f None = None

-- The node of a kind that making gives: none for a primitive that the kind refuses.
abbrev pub made_node : KindModel → Node Numbers → Option (Node Numbers)
made_node K n = cond (legal_node K n) (Some n) None
