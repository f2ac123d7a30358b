-- The node of a piece of a primitive.
use Rattle.std.specs.Prelude.{Some, None, Option}
use Rattle.algebra.specs.declared.numbers.Numbers.{Numbers}
use Rattle.algebra.specs.declared.node.Node.{Node}
use Rattle.algebra.specs.declared.node.Node.TheVariants.{Rest, Primitive}

-- A piece's node; where there is none, an empty rest.
abbrev pub node_of_piece : Option Numbers → Node Numbers
node_of_piece (Some p) = Primitive p
node_of_piece None = Rest 0
