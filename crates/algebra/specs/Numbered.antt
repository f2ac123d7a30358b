-- Rules and ways by their numbers.
use Rattle.std.specs.Prelude.{◌≡◌, ℕ, [], ◌∷◌, Some, None, Ok, Err, Option, Result, slice_index_or}
use Rattle.algebra.specs.declared.rule.Rule.{Rule}
use Rattle.algebra.specs.declared.rule.Rule.TheVariants.{
  SequenceAssociative,
  ParallelAssociative,
  ParallelCommutative,
  SequenceUnitLeft,
  SequenceUnitRight,
  ParallelUnit,
  RestSplit,
  RestBeside,
  Exchange,
}
use Rattle.algebra.specs.declared.rule.Way.{Way}
use Rattle.algebra.specs.declared.rule.Way.TheVariants.{Forth, Back}
use Rattle.algebra.specs.declared.rule.Unnamed.{Unnamed}

-- The rules are numbered from 1 to 9, in their order.
abbrev pub rule_numbered : ℕ → Option Rule
rule_numbered n = slice_index_or (None ∷ Some SequenceAssociative ∷ Some ParallelAssociative ∷ Some ParallelCommutative ∷ Some SequenceUnitLeft ∷ Some SequenceUnitRight ∷ Some ParallelUnit ∷ Some RestSplit ∷ Some RestBeside ∷ Some Exchange ∷ []) n None

-- Way 0 is forth, and way 1 is back.
abbrev pub way_numbered : ℕ → Option Way
way_numbered n = slice_index_or (Some Forth ∷ Some Back ∷ []) n None

-- What a number names, or the number itself where it names nothing.
abbrev pub Names : {X : Type 0} → (ℕ → Option X) → ℕ → Result X Unnamed → Type 0
Names named n (Ok x) = named n ≡ Some x
Names named n (Err e) = (named n ≡ None) × (e.0 ≡ n)

abbrev pub RuleNumbered : ℕ → Result Rule Unnamed → Type 0
RuleNumbered n r = Names rule_numbered n r

abbrev pub WayNumbered : ℕ → Result Way Unnamed → Type 0
WayNumbered n r = Names way_numbered n r
