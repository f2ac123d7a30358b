-- Rewriting a whole score gives the other side of a rule, and any other side at some split.
use Rattle.std.proofs.Common.{◌≡◌, ℕ, ◌-◌, Bool, true, false, eqb, leb, Some, None, Option, sym, refl, ap, subst, arith}
use Rattle.std.proofs.lemmas.Bool.{leb-true, le-leb, eqb-true, eq-eqb}
use Rattle.algebra.specs.declared.rule.Rule.{Rule}
use Rattle.algebra.specs.declared.rule.Rule.TheVariants.{
  SequenceAssociative,
  ParallelAssociative,
  ParallelCommutative,
  SequenceUnitLeft,
  SequenceUnitRight,
  ParallelUnit,
  RestSplit,
  RestBeside,
  Exchange,
}
use Rattle.algebra.specs.declared.rule.Way.{Way}
use Rattle.algebra.specs.declared.rule.Way.TheVariants.{Forth, Back}
use Rattle.algebra.specs.Kind.{KindModel}
use Rattle.algebra.specs.Score.{Score, Score.rest, Score.primitive, Score.sequence, Score.parallel, score_length}
use Rattle.algebra.specs.Rules.{
  Sides,
  Sides.sequence_associative,
  Sides.parallel_associative,
  Sides.parallel_commutative,
  Sides.sequence_unit_left,
  Sides.sequence_unit_right,
  Sides.parallel_unit,
  Sides.rest_split,
  Sides.rest_beside,
  Sides.exchange,
  Across,
}
use Rattle.algebra.specs.Rewrite.{in_sequence, in_parallel, in_rest, provided, other_side}
use Rattle.algebra.specs.Theorems.{OtherSides}

pub some_same : {s t : Score} → Some s ≡ Some t → s ≡ t
some_same e = cc

pub none_some : {s : Score} {A : Type 0} → None ≡ Some s → A
none_some e = let z : ◌≡◌ {A = ℕ} 0 1 = cc in absurd (omega arith)

-- where each of these gives a score, its argument has the form looked for
module _ (P : Score → Type 0) {t : Score} where
  from_sequence : (s : Score) (f : Score → Score → Option Score) → ((a b : Score) → f a b ≡ Some t → P (sequence a b)) → in_sequence s f ≡ Some t → P s
  from_sequence (rest d) f k e = none_some e
  from_sequence (primitive p) f k e = none_some e
  from_sequence (sequence a b) f k e = k a b e
  from_sequence (parallel a b) f k e = none_some e

  from_parallel : (s : Score) (f : Score → Score → Option Score) → ((a b : Score) → f a b ≡ Some t → P (parallel a b)) → in_parallel s f ≡ Some t → P s
  from_parallel (rest d) f k e = none_some e
  from_parallel (primitive p) f k e = none_some e
  from_parallel (sequence a b) f k e = none_some e
  from_parallel (parallel a b) f k e = k a b e

  from_rest : (s : Score) (f : ℕ → Option Score) → ((n : ℕ) → f n ≡ Some t → P (rest n)) → in_rest s f ≡ Some t → P s
  from_rest (rest d) f k e = k d e
  from_rest (primitive p) f k e = none_some e
  from_rest (sequence a b) f k e = none_some e
  from_rest (parallel a b) f k e = none_some e

from_provided : (b : Bool) {s t : Score} → provided b s ≡ Some t → (b ≡ true) × (s ≡ t)
from_provided true e = (refl, some_same e)
from_provided false e = none_some e

module _ (K : KindModel) where
  to : {rule : Rule} {s t u : Score} → u ≡ t → Sides K rule s u → Sides K rule s t
  to {rule} {s} e r = subst (Sides K rule s) e r

  from : {rule : Rule} {s t u : Score} → u ≡ t → Sides K rule u s → Sides K rule t s
  from {rule} {s} e r = subst (λ v. Sides K rule v s) e r

  -- what rewriting makes of a whole score is the other side of the rule
  pub across : (rule : Rule) (way : Way) (split : ℕ) (s t : Score) → other_side K rule way split s ≡ Some t → Across K rule way s t
  across SequenceAssociative Forth split s t =
      from_sequence (λ s. Sides K SequenceAssociative s t) s _ λ l c. from_sequence (λ l. Sides K SequenceAssociative (sequence l c) t) l _ λ a b e. to (some_same e) sequence_associative
  across SequenceAssociative Back split s t =
      from_sequence (λ s. Sides K SequenceAssociative t s) s _ λ a r. from_sequence (λ r. Sides K SequenceAssociative t (sequence a r)) r _ λ b c e. from (some_same e) sequence_associative
  across ParallelAssociative Forth split s t =
      from_parallel (λ s. Sides K ParallelAssociative s t) s _ λ l c. from_parallel (λ l. Sides K ParallelAssociative (parallel l c) t) l _ λ a b e. to (some_same e) parallel_associative
  across ParallelAssociative Back split s t =
      from_parallel (λ s. Sides K ParallelAssociative t s) s _ λ a r. from_parallel (λ r. Sides K ParallelAssociative t (parallel a r)) r _ λ b c e. from (some_same e) parallel_associative
  across ParallelCommutative Forth split s t = from_parallel (λ s. Sides K ParallelCommutative s t) s _ λ a b e. to (some_same e) parallel_commutative
  across ParallelCommutative Back split s t = from_parallel (λ s. Sides K ParallelCommutative t s) s _ λ a b e. from (some_same e) parallel_commutative
  across SequenceUnitLeft Forth split s t =
      from_sequence (λ s. Sides K SequenceUnitLeft s t) s _ λ z a. from_rest (λ z. Sides K SequenceUnitLeft (sequence z a) t) z _ λ n e.
      let g = from_provided (eqb n 0) e in rw (eqb-true n 0 g.0) (to g.1 sequence_unit_left)
  across SequenceUnitLeft Back split s t = λ e. from (some_same e) sequence_unit_left
  across SequenceUnitRight Forth split s t =
      from_sequence (λ s. Sides K SequenceUnitRight s t) s _ λ a z. from_rest (λ z. Sides K SequenceUnitRight (sequence a z) t) z _ λ n e.
      let g = from_provided (eqb n 0) e in rw (eqb-true n 0 g.0) (to g.1 sequence_unit_right)
  across SequenceUnitRight Back split s t = λ e. from (some_same e) sequence_unit_right
  across ParallelUnit Forth split s t =
      from_parallel (λ s. Sides K ParallelUnit s t) s _ λ a z. from_rest (λ z. Sides K ParallelUnit (parallel a z) t) z _ λ n e.
      let g = from_provided (eqb n 0) e in rw (eqb-true n 0 g.0) (to g.1 parallel_unit)
  across ParallelUnit Back split s t = λ e. from (some_same e) parallel_unit
  across RestSplit Forth split s t =
      from_sequence (λ s. Sides K RestSplit s t) s _ λ x y. from_rest (λ x. Sides K RestSplit (sequence x y) t) x _ λ i. from_rest (λ y. Sides K RestSplit (sequence (rest i) y) t) y _ λ j e.
      to (some_same e) (rest_split refl)
  across RestSplit Back split s t =
      from_rest (λ s. Sides K RestSplit t s) s _ λ n e.
      let g = from_provided (leb split n) e in from g.1 (rest_split (omega (arith, leb-true split n g.0)))
  across RestBeside Forth split s t =
      from_parallel (λ s. Sides K RestBeside s t) s _ λ x a. from_rest (λ x. Sides K RestBeside (parallel x a) t) x _ λ n e.
      let g = from_provided (eqb n (score_length K a)) e in to g.1 (rest_beside (eqb-true n (score_length K a) g.0))
  across RestBeside Back split s t = λ e. from (some_same e) (rest_beside refl)
  across Exchange Forth split s t =
      from_parallel (λ s. Sides K Exchange s t) s _ λ x y. from_sequence (λ x. Sides K Exchange (parallel x y) t) x _ λ a b. from_sequence (λ y. Sides K Exchange (parallel (sequence a b) y) t) y _ λ c d e.
      let g = from_provided (eqb (score_length K a) (score_length K c)) e in to g.1 (exchange (eqb-true (score_length K a) (score_length K c) g.0))
  across Exchange Back split s t =
      from_sequence (λ s. Sides K Exchange t s) s _ λ x y. from_parallel (λ x. Sides K Exchange t (sequence x y)) x _ λ a c. from_parallel (λ y. Sides K Exchange t (sequence (parallel a c) y)) y _ λ b d e.
      let g = from_provided (eqb (score_length K a) (score_length K c)) e in from g.1 (exchange (eqb-true (score_length K a) (score_length K c) g.0))

  -- the split at which rewriting gives a rule's other side
  abbrev pub Split : Rule → Way → Score → Score → Type 0
  Split rule way s t = (split : ℕ) × (other_side K rule way split s ≡ Some t)

  pub split_forth : {rule : Rule} {s t : Score} → Sides K rule s t → Split rule Forth s t
  split_forth sequence_associative = (0, refl)
  split_forth parallel_associative = (0, refl)
  split_forth parallel_commutative = (0, refl)
  split_forth sequence_unit_left = (0, refl)
  split_forth sequence_unit_right = (0, refl)
  split_forth parallel_unit = (0, refl)
  split_forth (rest_split e) = (0, ap (λ n. Some (rest n)) (sym e))
  split_forth (rest_beside {n} {a} e) = (0, rw (eq-eqb n (score_length K a) e))
  split_forth (exchange {a} {b} {c} {d} e) = (0, rw (eq-eqb (score_length K a) (score_length K c) e))

  pub split_back : {rule : Rule} {s t : Score} → Sides K rule t s → Split rule Back s t
  split_back sequence_associative = (0, refl)
  split_back parallel_associative = (0, refl)
  split_back parallel_commutative = (0, refl)
  split_back sequence_unit_left = (0, refl)
  split_back sequence_unit_right = (0, refl)
  split_back parallel_unit = (0, refl)
  split_back (rest_split {i} {j} {n} e) =
      let left_over : n - i ≡ j = omega arith in
      (i, rw (le-leb i n (omega arith), left_over))
  split_back (rest_beside {n} {a} e) = (0, ap (λ m. Some (parallel (rest m) a)) (sym e))
  split_back (exchange {a} {b} {c} {d} e) = (0, rw (eq-eqb (score_length K a) (score_length K c) e))

  split_of : (rule : Rule) (way : Way) (s t : Score) → Across K rule way s t → Split rule way s t
  split_of rule Forth s t h = split_forth h
  split_of rule Back s t h = split_back h

pub other_sides : OtherSides
other_sides K rule way s t = (split_of K rule way s t, λ g. across K rule way g.0 s t g.1)
