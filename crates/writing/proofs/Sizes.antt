-- How many bytes the term and the file of a score have.
use Rattle.std.proofs.Common.{◌+◌, ◌*◌, ◌^◌, ◌<◌, ◌≤◌, length, arith}
use Rattle.algebra.specs.Kind.{KindModel, KindLaws}
use Rattle.algebra.specs.Score.{Score, Score.rest, Score.primitive, Score.sequence, Score.parallel, Legal, nodes, primitives, score_length}
use Rattle.grammar.specs.Files.{print}
use Rattle.grammar.specs.Loads.{file_of, file_bytes}
use Rattle.grammar.proofs.Sizes.{Narrow, length_print, length_file}
use Rattle.nodes.specs.Standing.{Limited}

module _ (K : KindModel) (laws : KindLaws K) where
  -- no rest is longer than the score
  narrow_score : (s : Score) → Legal K s → score_length K s < 10 ^ 8 → Narrow s
  narrow_score (rest d) l h = h
  narrow_score (primitive p) l h = laws.words p l
  narrow_score (sequence a b) l h = (narrow_score a l.0 (omega arith), narrow_score b l.1 (omega arith))
  narrow_score (parallel a b) l h = (narrow_score a l.0 (omega arith), narrow_score b l.1 (omega arith))

  -- at most 9 bytes for each node, and 35 more for each primitive
  pub length_term : (s : Score) → Limited K s → length (print s) ≤ 9 * 1023 + 35 * 170
  length_term s l = omega (arith, length_print s (narrow_score s l.legal (omega (arith, l.short))), l.small, l.few)

  -- a score of few nodes and primitives and of at most 8 digits of ticks has a small file
  pub length_bytes : (s : Score) → Legal K s → nodes s ≤ 1023 → primitives s ≤ 170 → score_length K s < 10 ^ 8 → length (file_bytes K s) ≤ 16384
  length_bytes s l n m h = length_file (file_of K s) laws.named.short h m (narrow_score s l h) n m
