-- Rows of nodes that are one score.
use Rattle.std.specs.Prelude.{◌≡◌, ℕ, ◌+◌, ◌≤◌, max, Bool, ◌&&◌, List, length, ◌==◌, nat_le}
use Rattle.algebra.specs.declared.numbers.Numbers.{Numbers}
use Rattle.algebra.specs.declared.node.Node.{Node}
use Rattle.algebra.specs.Kind.{four}
use Rattle.algebra.specs.Score.{Score, Score.rest, Score.primitive, Score.sequence, Score.parallel, nodes, primitives}
use Rattle.algebra.specs.Layout.{preorder, view, stack, score_of}

-- The length of a score with each primitive counted as 0.
abbrev pub bare : Score → ℕ
bare (rest d) = d
bare (primitive p) = 0
bare (sequence a b) = bare a + bare b
bare (parallel a b) = max (bare a) (bare b)

-- The row is one score and nothing else.
abbrev pub Whole : List (Node Numbers) → Type 0
Whole xs = xs ≡ preorder (score_of xs)

-- The row is one score within the limits that do not depend on the kind.
pub record Held (xs : List (Node Numbers)) : Type 0 where
  pub whole : Whole xs
  pub small : length xs ≤ 1023
  pub few : primitives (score_of xs) ≤ 170
  pub short : bare (score_of xs) ≤ 16777215

-- The row of any kind with every primitive's numbers left out.
abbrev pub blank : Numbers
blank = four 0 0 0 0

abbrev pub outline : {P : Type 0} → List (Node P) → List (Node Numbers)
outline row = view (λ _. blank) row

-- Whether a row is one score of n nodes and m primitives, within the limits. The primitives' numbers do not matter.
abbrev pub held_row : List (Node Numbers) → ℕ → ℕ → Bool
held_row xs n m =
    let s = score_of xs in
    (length (stack xs) == 1) && (length xs == n && (nodes s == n && (nat_le n 1023 && (primitives s == m && (nat_le m 170 && nat_le (bare s) 16777215)))))
