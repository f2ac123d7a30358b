-- The nodes of a term as they stand in a file.
use Rattle.std.specs.Prelude.{ℕ, ◌+◌, List, [], ◌∷◌, ◌++◌, map, length}
use Rattle.algebra.specs.declared.numbers.Numbers.{Numbers}
use Rattle.algebra.specs.declared.node.Node.{Node}
use Rattle.algebra.specs.declared.node.Node.TheVariants.{Rest, Primitive, Sequence, Parallel}
use Rattle.algebra.specs.Score.{Score, Score.rest, Score.primitive, Score.sequence, Score.parallel}
use Rattle.grammar.specs.declared.item.Item.{Item}
use Rattle.grammar.specs.Files.{print}

abbrev pub item : Node Numbers → ℕ → Item
item n at = record { node = n; offset = at }

-- The nodes of a term that is printed from an offset on, in preorder, each with the offset where it begins.
-- The left part of a pair begins behind the parenthesis, and the right part behind the left and one more byte.
abbrev pub items : ℕ → Score → List Item
items at (rest d) = item (Rest d) at ∷ []
items at (primitive p) = item (Primitive p) at ∷ []
items at (sequence a b) = item Sequence at ∷ (items (at + 1) a ++ items (at + 1 + length (print a) + 1) b)
items at (parallel a b) = item Parallel at ∷ (items (at + 1) a ++ items (at + 1 + length (print a) + 1) b)

-- The nodes alone.
abbrev pub nodes_of : List Item → List (Node Numbers)
nodes_of is = map (λ (i : Item). i.node) is
