-- Scores: terms of rests and primitives, in sequence and in parallel. A score means a length and a bag of placed primitives.
use Rattle.std.specs.Prelude.{ℕ, ◌+◌, max, Bool, ◌&&◌, List, [], ◌∷◌, ◌++◌, map, ◌==◌}
use Rattle.algebra.specs.declared.numbers.Numbers.{Numbers}
use Rattle.algebra.specs.Kind.{KindModel, LegalNumbers}

pub data Score : Type 0 where
  rest : ℕ → Score
  primitive : Numbers → Score
  sequence : Score → Score → Score
  parallel : Score → Score → Score

abbrev pub nodes : Score → ℕ
nodes (rest d) = 1
nodes (primitive p) = 1
nodes (sequence a b) = 1 + nodes a + nodes b
nodes (parallel a b) = 1 + nodes a + nodes b

abbrev pub primitives : Score → ℕ
primitives (rest d) = 0
primitives (primitive p) = 1
primitives (sequence a b) = primitives a + primitives b
primitives (parallel a b) = primitives a + primitives b

-- A sequence has the sum of the lengths, a parallel the greater.
abbrev pub score_length : KindModel → Score → ℕ
score_length K (rest d) = d
score_length K (primitive p) = K.length_of p
score_length K (sequence a b) = score_length K a + score_length K b
score_length K (parallel a b) = max (score_length K a) (score_length K b)

-- Every primitive of the score is one of the kind.
abbrev pub Legal : KindModel → Score → Type 0
Legal K (rest d) = Unit {0}
Legal K (primitive p) = LegalNumbers K p
Legal K (sequence a b) = Legal K a × Legal K b
Legal K (parallel a b) = Legal K a × Legal K b

-- A primitive at an onset.
pub record Placed : Type 0 where
  pub onset : ℕ
  pub what : Numbers

abbrev pub same_numbers : Numbers → Numbers → Bool
same_numbers p q = p.first == q.first && (p.second == q.second && (p.third == q.third && p.fourth == q.fourth))

abbrev pub same_placed : Placed → Placed → Bool
same_placed x y = x.onset == y.onset && same_numbers x.what y.what

abbrev pub later : ℕ → Placed → Placed
later k x = record { onset = k + x.onset; what = x.what }

-- The bag of a score, listed as the primitives stand in the term from left to right.
abbrev pub placed : KindModel → Score → List Placed
placed K (rest d) = []
placed K (primitive p) = record { onset = 0; what = p } ∷ []
placed K (sequence a b) = placed K a ++ map (later (score_length K a)) (placed K b)
placed K (parallel a b) = placed K a ++ placed K b
