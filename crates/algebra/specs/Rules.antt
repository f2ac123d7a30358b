-- The nine rules, a step by a rule at any node, and a chain of steps.
use Rattle.std.specs.Prelude.{◌≡◌, ℕ, ◌+◌}
use Rattle.algebra.specs.declared.rule.Rule.{Rule}
use Rattle.algebra.specs.declared.rule.Rule.TheVariants.{
  SequenceAssociative,
  ParallelAssociative,
  ParallelCommutative,
  SequenceUnitLeft,
  SequenceUnitRight,
  ParallelUnit,
  RestSplit,
  RestBeside,
  Exchange,
}
use Rattle.algebra.specs.declared.rule.Way.{Way}
use Rattle.algebra.specs.declared.rule.Way.TheVariants.{Forth, Back}
use Rattle.algebra.specs.Kind.{KindModel}
use Rattle.algebra.specs.Score.{Score, Score.rest, Score.sequence, Score.parallel, score_length}

-- The left side and the right side of each rule.
pub data Sides (K : KindModel) : Rule → Score → Score → Type 0 where
  sequence_associative : {a b c : Score} → Sides K SequenceAssociative (sequence (sequence a b) c) (sequence a (sequence b c))
  parallel_associative : {a b c : Score} → Sides K ParallelAssociative (parallel (parallel a b) c) (parallel a (parallel b c))
  parallel_commutative : {a b : Score} → Sides K ParallelCommutative (parallel a b) (parallel b a)
  sequence_unit_left : {a : Score} → Sides K SequenceUnitLeft (sequence (rest 0) a) a
  sequence_unit_right : {a : Score} → Sides K SequenceUnitRight (sequence a (rest 0)) a
  parallel_unit : {a : Score} → Sides K ParallelUnit (parallel a (rest 0)) a
  rest_split : {i j n : ℕ} → n ≡ i + j → Sides K RestSplit (sequence (rest i) (rest j)) (rest n)
  rest_beside : {n : ℕ} {a : Score} → n ≡ score_length K a → Sides K RestBeside (parallel (rest n) a) a
  exchange : {a b c d : Score} → score_length K a ≡ score_length K c → Sides K Exchange (parallel (sequence a b) (sequence c d)) (sequence (parallel a c) (parallel b d))

-- Both sides of a rule as a way meets them: forth from left to right, back from right to left.
abbrev pub Across : KindModel → Rule → Way → Score → Score → Type 0
Across K rule Forth s t = Sides K rule s t
Across K rule Back s t = Sides K rule t s

-- One side of a rule put for the other, at any node.
pub data Step (K : KindModel) : Score → Score → Type 0 where
  forth : {rule : Rule} {a b : Score} → Sides K rule a b → Step K a b
  back : {rule : Rule} {a b : Score} → Sides K rule b a → Step K a b
  sequence_left : {a b c : Score} → Step K a b → Step K (sequence a c) (sequence b c)
  sequence_right : {a b c : Score} → Step K a b → Step K (sequence c a) (sequence c b)
  parallel_left : {a b c : Score} → Step K a b → Step K (parallel a c) (parallel b c)
  parallel_right : {a b c : Score} → Step K a b → Step K (parallel c a) (parallel c b)

-- A finite number of steps, possibly none.
pub data Chain (K : KindModel) : Score → Score → Type 0 where
  done : {a : Score} → Chain K a a
  more : {a b c : Score} → Step K a b → Chain K b c → Chain K a c
