-- A score that stands in a row of a kind's nodes.
use Rattle.std.specs.Prelude.{◌≡◌, ◌≤◌, List, length}
use Rattle.algebra.specs.declared.numbers.Numbers.{Numbers}
use Rattle.algebra.specs.declared.node.Node.{Node}
use Rattle.algebra.specs.Kind.{KindModel}
use Rattle.algebra.specs.Score.{Score, Legal, nodes, primitives, score_length}
use Rattle.algebra.specs.Layout.{view, score_of}
use Rattle.nodes.specs.declared.span.Span.{Span}
use Rattle.nodes.specs.Held.{Whole}
use Rattle.nodes.specs.Spans.{Spanned}

-- The score of a row.
abbrev pub standing_score : {P : Type 0} → (P → Numbers) → List (Node P) → Score
standing_score f row = score_of (view f row)

-- What a score that stands in nodes keeps to: its primitives are of the kind, it has at most 1,023 nodes and 170 primitives,
-- and it is at most 27,918,165 ticks long, which is 16,777,215 and 65,535 for each of 170 primitives.
pub record Limited (K : KindModel) (s : Score) : Type 0 where
  pub legal : Legal K s
  pub small : nodes s ≤ 1023
  pub few : primitives s ≤ 170
  pub short : score_length K s ≤ 27918165

-- A row is one score, which keeps to the limits.
pub record Stands {P : Type 0} (K : KindModel) (f : P → Numbers) (row : List (Node P)) : Type 0 where
  pub whole : Whole (view f row)
  pub limited : Limited K (standing_score f row)

-- So it is, and a table has the spans of its parts, and perhaps more.
pub record Tabled {P : Type 0} (K : KindModel) (f : P → Numbers) (row : List (Node P)) (spans : List Span) : Type 0 where
  pub stands : Stands K f row
  pub room : length row ≤ length spans
  pub spanned : Spanned K (view f row) spans 0

-- So it is, and the table has just those spans.
pub record Standing {P : Type 0} (K : KindModel) (f : P → Numbers) (row : List (Node P)) (spans : List Span) : Type 0 where
  pub tabled : Tabled K f row spans
  pub just : length spans ≡ length row
