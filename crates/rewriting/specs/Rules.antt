-- The rules and ways that say of one join what others say of the other.
use Rattle.std.specs.Prelude.{ℕ}
use Rattle.algebra.specs.declared.rule.Rule.{Rule}
use Rattle.algebra.specs.declared.rule.Rule.TheVariants.{
  SequenceAssociative,
  ParallelAssociative,
  SequenceUnitLeft,
  SequenceUnitRight,
  ParallelUnit,
  RestBeside,
}
use Rattle.algebra.specs.declared.rule.Way.{Way}
use Rattle.algebra.specs.declared.rule.Way.TheVariants.{Forth, Back}
use Rattle.algebra.specs.Kind.{KindModel}
use Rattle.algebra.specs.Score.{Score, score_length}
use Rattle.nodes.specs.declared.join.Join.{Join}
use Rattle.nodes.specs.declared.join.Join.TheVariants.{Sequence, Parallel}

-- Joins of one kind are regrouped.
abbrev pub associative : Join → Rule
associative Sequence = SequenceAssociative
associative Parallel = ParallelAssociative

-- A rest that changes nothing at the left of a join.
abbrev pub unit_left : Join → Rule
unit_left Sequence = SequenceUnitLeft
unit_left Parallel = RestBeside

-- How long it is: none in sequence, and beside a score as long as the score.
abbrev pub left_ticks : KindModel → Join → Score → ℕ
left_ticks K Sequence s = 0
left_ticks K Parallel s = score_length K s

-- The rest of length 0 at the right of a join.
abbrev pub unit_right : Join → Rule
unit_right Sequence = SequenceUnitRight
unit_right Parallel = ParallelUnit

-- The join that is exchanged with another.
abbrev pub other_join : Join → Join
other_join Sequence = Parallel
other_join Parallel = Sequence

-- The way in which the rule of exchange meets a score that is such a join.
abbrev pub exchange_way : Join → Way
exchange_way Sequence = Back
exchange_way Parallel = Forth

-- The length of what stands beside a in ((a|b)+(c|d)) or in ((a+b)|(c+d)).
abbrev pub beside_length : KindModel → Join → Score → Score → ℕ
beside_length K Sequence b c = score_length K b
beside_length K Parallel b c = score_length K c
