-- The nodes of a join, put behind others one part after the other.
use Rattle.std.proofs.Common.{◌≡◌, ◌+◌, ◌≤◌, [], ◌∷◌, ◌++◌, length, ap, ◌∙◌, arith}
use Rattle.algebra.specs.declared.numbers.Numbers.{Numbers}
use Rattle.algebra.specs.declared.node.Node.{Node}
use Rattle.algebra.specs.Score.{Score, nodes}
use Rattle.algebra.specs.Layout.{preorder}
use Rattle.nodes.specs.declared.join.Join.{Join}
use Rattle.nodes.specs.Joins.{joined}
use Rattle.nodes.specs.Lists.{Listed}
use Rattle.nodes.proofs.Joins.{joined_nodes}
use Rattle.nodes.proofs.Lists.{put_long}
use Rattle.nodes.proofs.Parts.{length_preorder}

-- behind the first part there is room for the second
pub second_fits : (join : Join) (a b : Score) {s : Score} → s ≡ joined join a b → (xs ys zs : Listed) (x : Node Numbers) → length xs.items + nodes s ≤ xs.room → ys.items ≡ xs.items ++ (x ∷ [])
    → ys.room ≡ xs.room → zs.items ≡ ys.items ++ preorder a → zs.room ≡ ys.room → length zs.items + nodes b ≤ zs.room
second_fits join a b is xs ys zs x fits first same left kept =
    omega (arith, ap nodes is ∙ joined_nodes join a b, put_long xs.items (x ∷ []) first, put_long ys.items (preorder a) left, length_preorder a, same, kept)
