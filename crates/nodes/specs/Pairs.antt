-- Where the parts of a pair stand in a row.
use Rattle.std.specs.Prelude.{◌≡◌, ℕ, ◌+◌, ◌≤◌, List, length}
use Rattle.algebra.specs.declared.numbers.Numbers.{Numbers}
use Rattle.algebra.specs.declared.node.Node.{Node}
use Rattle.algebra.specs.Score.{Score, nodes}
use Rattle.algebra.specs.Layout.{score_at}

-- The score that begins at a node is a pair of those that begin at two others: the next node, and the one behind its left part.
pub record Pair (f : Score → Score → Score) (xs : List (Node Numbers)) (at left right : ℕ) : Type 0 where
  pub is : score_at xs at ≡ f (score_at xs left) (score_at xs right)
  pub starts : left ≡ at + 1
  pub middle : right ≡ left + nodes (score_at xs left)
  pub ends : right + nodes (score_at xs right) ≤ length xs
  pub left_some : 1 ≤ nodes (score_at xs left)
  pub right_some : 1 ≤ nodes (score_at xs right)
