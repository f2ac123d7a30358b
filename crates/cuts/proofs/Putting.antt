-- Scores put behind the nodes of a list.
use Rattle.std.proofs.Common.{◌≡◌, ◌+◌, List, ◌++◌, length, sym, ap, ◌∙◌, arith}
use Rattle.std.proofs.lemmas.List.{length-map}
use Rattle.algebra.specs.declared.numbers.Numbers.{Numbers}
use Rattle.algebra.specs.declared.node.Node.{Node}
use Rattle.algebra.specs.Score.{Score, nodes}
use Rattle.algebra.specs.Layout.{seen, view, preorder}
use Rattle.nodes.proofs.Lists.{put_long}
use Rattle.nodes.proofs.Parts.{length_preorder}

-- how long the list is then
pub put_nodes : (xs : List (Node Numbers)) (s : Score) {ys : List (Node Numbers)} → ys ≡ xs ++ preorder s → length ys ≡ length xs + nodes s
put_nodes xs s e = omega (arith, put_long xs (preorder s) e, length_preorder s)

-- a score that stands in a row of a kind's nodes
module _ {P : Type 0} (f : P → Numbers) (row : List (Node P)) (s : Score) (is : view f row ≡ preorder s) where
  pub row_nodes : length row ≡ nodes s
  row_nodes = sym (length-map row (seen f)) ∙ ap length is ∙ length_preorder s

  pub put_row : (xs : List (Node Numbers)) {ys : List (Node Numbers)} → ys ≡ xs ++ view f row → ys ≡ xs ++ preorder s
  put_row xs e = e ∙ ap (λ us. xs ++ us) is
