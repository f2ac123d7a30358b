-- One step of rewriting as a function: which rule, which way, at which node.
use Rattle.std.specs.Prelude.{ℕ, ◌+◌, ◌-◌, Bool, cond, Some, None, Option, ◌==◌, nat_le}
use Rattle.algebra.specs.declared.rule.Rule.{Rule}
use Rattle.algebra.specs.declared.rule.Rule.TheVariants.{
  SequenceAssociative,
  ParallelAssociative,
  ParallelCommutative,
  SequenceUnitLeft,
  SequenceUnitRight,
  ParallelUnit,
  RestSplit,
  RestBeside,
  Exchange,
}
use Rattle.algebra.specs.declared.rule.Way.{Way}
use Rattle.algebra.specs.declared.rule.Way.TheVariants.{Forth, Back}
use Rattle.algebra.specs.Kind.{KindModel}
use Rattle.algebra.specs.Score.{Score, Score.rest, Score.primitive, Score.sequence, Score.parallel, score_length, nodes}

-- What is made of the parts of a sequence; none of another score.
abbrev pub in_sequence : Score → (Score → Score → Option Score) → Option Score
in_sequence (rest d) f = None
in_sequence (primitive p) f = None
in_sequence (sequence a b) f = f a b
in_sequence (parallel a b) f = None

-- What is made of the parts of a parallel; none of another score.
abbrev pub in_parallel : Score → (Score → Score → Option Score) → Option Score
in_parallel (rest d) f = None
in_parallel (primitive p) f = None
in_parallel (sequence a b) f = None
in_parallel (parallel a b) f = f a b

-- What is made of the length of a rest; none of another score.
abbrev pub in_rest : Score → (ℕ → Option Score) → Option Score
in_rest (rest d) f = f d
in_rest (primitive p) f = None
in_rest (sequence a b) f = None
in_rest (parallel a b) f = None

-- A score where a test holds, else none.
abbrev pub provided : Bool → Score → Option Score
provided b s = cond b (Some s) None

-- The other side of a rule, where the score is one side of it. Only a rest that is split looks at the split.
abbrev pub other_side : KindModel → Rule → Way → ℕ → Score → Option Score
other_side K SequenceAssociative Forth split s = in_sequence s λ l c. in_sequence l λ a b. Some (sequence a (sequence b c))
other_side K SequenceAssociative Back split s = in_sequence s λ a r. in_sequence r λ b c. Some (sequence (sequence a b) c)
other_side K ParallelAssociative Forth split s = in_parallel s λ l c. in_parallel l λ a b. Some (parallel a (parallel b c))
other_side K ParallelAssociative Back split s = in_parallel s λ a r. in_parallel r λ b c. Some (parallel (parallel a b) c)
other_side K ParallelCommutative Forth split s = in_parallel s λ a b. Some (parallel b a)
other_side K ParallelCommutative Back split s = in_parallel s λ a b. Some (parallel b a)
other_side K SequenceUnitLeft Forth split s = in_sequence s λ z a. in_rest z λ n. provided (n == 0) a
other_side K SequenceUnitLeft Back split s = Some (sequence (rest 0) s)
other_side K SequenceUnitRight Forth split s = in_sequence s λ a z. in_rest z λ n. provided (n == 0) a
other_side K SequenceUnitRight Back split s = Some (sequence s (rest 0))
other_side K ParallelUnit Forth split s = in_parallel s λ a z. in_rest z λ n. provided (n == 0) a
other_side K ParallelUnit Back split s = Some (parallel s (rest 0))
other_side K RestSplit Forth split s = in_sequence s λ x y. in_rest x λ i. in_rest y λ j. Some (rest (i + j))
other_side K RestSplit Back split s = in_rest s λ n. provided (nat_le split n) (sequence (rest split) (rest (n - split)))
other_side K RestBeside Forth split s = in_parallel s λ x a. in_rest x λ n. provided (n == score_length K a) a
other_side K RestBeside Back split s = Some (parallel (rest (score_length K s)) s)
other_side K Exchange Forth split s =
    in_parallel s λ x y. in_sequence x λ a b. in_sequence y λ c d. provided (score_length K a == score_length K c) (sequence (parallel a c) (parallel b d))
other_side K Exchange Back split s =
    in_sequence s λ x y. in_parallel x λ a c. in_parallel y λ b d. provided (score_length K a == score_length K c) (parallel (sequence a b) (sequence c d))

-- What a function makes of the score, if there is one.
abbrev pub mapped : (Score → Score) → Option Score → Option Score
mapped f None = None
mapped f (Some s) = Some (f s)

-- A function put to use at a node. Nodes are numbered from 0: a pair, then its left part, then its right.
abbrev pub at_node : (Score → Option Score) → ℕ → Score → Option Score
at_node f node (rest d) = cond (node == 0) (f (rest d)) None
at_node f node (primitive p) = cond (node == 0) (f (primitive p)) None
at_node f node (sequence a b) =
    cond (node == 0) (f (sequence a b))
    (cond (nat_le node (nodes a)) (mapped (λ x. sequence x b) (at_node f (node - 1) a)) (mapped (sequence a) (at_node f (node - 1 - nodes a) b)))
at_node f node (parallel a b) =
    cond (node == 0) (f (parallel a b))
    (cond (nat_le node (nodes a)) (mapped (λ x. parallel x b) (at_node f (node - 1) a)) (mapped (parallel a) (at_node f (node - 1 - nodes a) b)))

-- The score with the other side of a rule put at a node; none where there is no such node or the rule does not fit it.
abbrev pub rewritten : KindModel → Rule → Way → ℕ → ℕ → Score → Option Score
rewritten K rule way split node s = at_node (other_side K rule way split) node s
