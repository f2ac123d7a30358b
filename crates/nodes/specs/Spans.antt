-- The table of spans of a row: how many nodes the score that begins at each node has, and its length.
use Rattle.std.specs.Prelude.{◌≡◌, ℕ, ◌+◌, ◌<◌, ◌≤◌, min, max, List, length, slice_index_or}
use Rattle.algebra.specs.declared.numbers.Numbers.{Numbers}
use Rattle.algebra.specs.declared.node.Node.{Node}
use Rattle.algebra.specs.declared.node.Node.TheVariants.{Rest, Primitive, Sequence, Parallel}
use Rattle.algebra.specs.Kind.{KindModel}
use Rattle.algebra.specs.Score.{Score, score_length, nodes}
use Rattle.algebra.specs.Layout.{score_at}
use Rattle.nodes.specs.declared.span.Span.{Span}

-- A length as the table has it: past 4,294,967,295 it stays there.
abbrev pub capped : ℕ → ℕ
capped n = min 4294967295 n

abbrev pub span_of : KindModel → Score → Span
span_of K s = record { nodes = nodes s; length = capped (score_length K s) }

abbrev pub no_span : Span
no_span = record { nodes = 0; length = 0 }

-- From a node on, the table has the span of the score that begins at each.
abbrev pub Spanned : KindModel → List (Node Numbers) → List Span → ℕ → Type 0
Spanned K xs spans from = (i : ℕ) → from ≤ i → i < length xs → slice_index_or spans i no_span ≡ span_of K (score_at xs i)

-- Where the right part of a pair at a node begins, by the table.
abbrev pub right_of : List Span → ℕ → ℕ
right_of spans at = at + 1 + (slice_index_or spans (at + 1) no_span).nodes

-- A pair's parts have spans in the table, and are not too many nodes.
pub record PartsInside (spans : List Span) (at : ℕ) : Type 0 where
  pub left : at + 1 < length spans
  pub right : right_of spans at < length spans
  pub few : 1 + (slice_index_or spans (at + 1) no_span).nodes + (slice_index_or spans (right_of spans at) no_span).nodes ≤ 1023

abbrev pub Inside : List Span → ℕ → Node Numbers → Type 0
Inside spans at (Rest d) = Unit {0}
Inside spans at (Primitive p) = Unit {0}
Inside spans at Sequence = PartsInside spans at
Inside spans at Parallel = PartsInside spans at

-- The span of a pair, from those of its parts.
abbrev pub sequence_span : Span → Span → Span
sequence_span a b = record { nodes = 1 + a.nodes + b.nodes; length = capped (a.length + b.length) }

abbrev pub parallel_span : Span → Span → Span
parallel_span a b = record { nodes = 1 + a.nodes + b.nodes; length = max a.length b.length }

-- The span of the score that begins at a node, from the node and the spans behind it.
abbrev pub next_span : KindModel → List Span → ℕ → Node Numbers → Span
next_span K spans at (Rest d) = record { nodes = 1; length = capped d }
next_span K spans at (Primitive p) = record { nodes = 1; length = capped (K.length_of p) }
next_span K spans at Sequence = sequence_span (slice_index_or spans (at + 1) no_span) (slice_index_or spans (right_of spans at) no_span)
next_span K spans at Parallel = parallel_span (slice_index_or spans (at + 1) no_span) (slice_index_or spans (right_of spans at) no_span)
