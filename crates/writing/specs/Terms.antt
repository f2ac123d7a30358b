-- Scores at the beginning of a row of nodes.
use Rattle.std.specs.Prelude.{◌≡◌, ℕ, List, [], ◌∷◌, ◌++◌, drop}
use Rattle.algebra.specs.declared.numbers.Numbers.{Numbers}
use Rattle.algebra.specs.declared.node.Node.{Node}
use Rattle.algebra.specs.Score.{nodes}
use Rattle.algebra.specs.Layout.{preorder, score_of}
use Rattle.grammar.specs.Files.{print}

-- The nodes behind the score that begins a row.
abbrev pub behind : List (Node Numbers) → List (Node Numbers)
behind xs = drop (nodes (score_of xs)) xs

-- A row begins with all nodes of a score.
abbrev pub Begun : List (Node Numbers) → Type 0
Begun xs = xs ≡ preorder (score_of xs) ++ behind xs

-- A row begins with all nodes of two scores, one behind the other.
pub record Twice (xs : List (Node Numbers)) : Type 0 where
  pub first : Begun xs
  pub second : Begun (behind xs)

-- The text of a pair of the two scores that begin a row, in parentheses, with a sign between them.
abbrev pub paired : ℕ → List (Node Numbers) → List ℕ
paired sign xs = 40 ∷ (print (score_of xs) ++ (sign ∷ (print (score_of (behind xs)) ++ (41 ∷ []))))
