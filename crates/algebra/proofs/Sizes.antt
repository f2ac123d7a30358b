-- How large a normal form is, and how much a step and a chain change the size.
use Rattle.std.proofs.Common.{◌≡◌, ℕ, suc, ◌+◌, ◌-◌, ◌*◌, ◌≤◌, max, List, [], ◌∷◌, length, sym, refl, ap, ◌∙◌, arith}
use mathlib.Core.List.Permᴰ.{cons as permuted-cons}
use mathlib.Core.List.Permᴰ.{nil as permuted-nil}
use mathlib.Core.List.Permᴰ.{swap as permuted-swap}
use mathlib.Core.List.Permᴰ.{trans as permuted-trans}
use mathlib.Core.List.{Permᴰ as Permutation}
use Rattle.std.proofs.lemmas.List.{length-append, length-map}
use Rattle.algebra.specs.Bag.{ordered_after}
use Rattle.algebra.specs.declared.rule.Rule.{Rule}
use Rattle.algebra.specs.Kind.{KindModel}
use Rattle.algebra.specs.Score.{Score, Score.rest, Score.primitive, Score.sequence, Score.parallel, score_length, nodes, primitives, placed}
use Rattle.algebra.specs.Normal.{Line, same_line, line, lines, from_line, together}
use Rattle.algebra.specs.Rules.{
  Sides,
  Sides.sequence_associative,
  Sides.parallel_associative,
  Sides.parallel_commutative,
  Sides.sequence_unit_left,
  Sides.sequence_unit_right,
  Sides.parallel_unit,
  Sides.rest_split,
  Sides.rest_beside,
  Sides.exchange,
  Step,
  Step.forth,
  Step.back,
  Step.sequence_left,
  Step.sequence_right,
  Step.parallel_left,
  Step.parallel_right,
  Chain,
  Chain.done,
  Chain.more,
}
use Rattle.algebra.specs.Theorems.{StepSize, ChainSize, NormalSize, NormalFits}
use Rattle.algebra.proofs.Sound.{chain_kept}
use Rattle.algebra.proofs.Complete.{line_equality, after_reached}
use Rattle.algebra.proofs.Partners.{ordered_permuted}

pub length_permuted : {X : Type 0} {xs ys : List X} → Permutation xs ys → length xs ≡ length ys
length_permuted permuted-nil = refl
length_permuted (permuted-cons e p) = ap suc (length_permuted p)
length_permuted (permuted-swap e d) = refl
length_permuted (permuted-trans p q) = length_permuted p ∙ length_permuted q

pub length_placed : (K : KindModel) (s : Score) → length (placed K s) ≡ primitives s
length_placed K (rest d) = refl
length_placed K (primitive p) = refl
length_placed K (sequence a b) = simp (length-append, length-map, length_placed K a, length_placed K b)
length_placed K (parallel a b) = simp (length-append, length_placed K a, length_placed K b)

from_line_size : (l : Line) (ls : List Line) → (primitives (from_line l ls) ≡ 1 + length ls) × (nodes (from_line l ls) ≡ 6 * length ls + 5)
from_line_size l [] = (refl, refl)
from_line_size l (m ∷ ms) = let known = from_line_size m ms in (omega (arith, known.0), omega (arith, known.1))

together_size : (n : ℕ) (ls : List Line) → (primitives (together n ls) ≡ length ls) × (nodes (together n ls) ≡ max 1 (6 * length ls - 1))
together_size n [] = (refl, refl)
together_size n (l ∷ ls) = let h = from_line_size l ls in (omega (arith, h.0), omega (arith, h.1))

pub normal_size : NormalSize
normal_size K s model =
    let ls = ordered_after same_line (lines K s) (lines K model) in
    let size : length ls ≡ primitives s = sym (length_permuted (ordered_permuted line_equality (lines K s) (lines K model))) ∙ length-map (placed K s) (line K (score_length K s)) ∙ length_placed K s in
    let h = together_size (score_length K s) ls in
    (omega (arith, h.0), omega (arith, h.1))

pub normal_fits : NormalFits
normal_fits K s model =
    let size = normal_size K s model in
    let length = (chain_kept (after_reached K s model)).length in (
      (λ h. (omega (arith, size.0), omega (arith, size.1))),
      λ h. record { few_nodes = omega (arith, size.1); few_primitives = omega (arith, size.0); short = omega arith },
    )

-- How the sizes of two scores differ by a step.
record Near (s t : Score) : Type 0 where
  pub count : primitives s ≡ primitives t
  pub more : nodes t ≤ nodes s + 2
  pub fewer : nodes s ≤ nodes t + 2

module _ {K : KindModel} where
  sides_near : {rule : Rule} {s t : Score} → Sides K rule s t → Near s t
  sides_near sequence_associative = record { count = omega arith; more = omega arith; fewer = omega arith }
  sides_near parallel_associative = record { count = omega arith; more = omega arith; fewer = omega arith }
  sides_near parallel_commutative = record { count = omega arith; more = omega arith; fewer = omega arith }
  sides_near sequence_unit_left = record { count = omega arith; more = omega arith; fewer = omega arith }
  sides_near sequence_unit_right = record { count = omega arith; more = omega arith; fewer = omega arith }
  sides_near parallel_unit = record { count = omega arith; more = omega arith; fewer = omega arith }
  sides_near (rest_split e) = record { count = omega arith; more = omega arith; fewer = omega arith }
  sides_near (rest_beside e) = record { count = omega arith; more = omega arith; fewer = omega arith }
  sides_near (exchange e) = record { count = omega arith; more = omega arith; fewer = omega arith }

  step_near : {s t : Score} → Step K s t → Near s t
  step_near (forth r) = sides_near r
  step_near (back r) = let n = sides_near r in record { count = sym n.count; more = n.fewer; fewer = n.more }
  step_near (sequence_left p) = let n = step_near p in record { count = omega arith; more = omega arith; fewer = omega arith }
  step_near (sequence_right p) = let n = step_near p in record { count = omega arith; more = omega arith; fewer = omega arith }
  step_near (parallel_left p) = let n = step_near p in record { count = omega arith; more = omega arith; fewer = omega arith }
  step_near (parallel_right p) = let n = step_near p in record { count = omega arith; more = omega arith; fewer = omega arith }

  chain_count : {s t : Score} → Chain K s t → primitives t ≡ primitives s
  chain_count done = refl
  chain_count (more p c) = chain_count c ∙ sym (step_near p).count

pub step_size : StepSize
step_size K s t p = let n = step_near p in (sym n.count, n.more)

pub chain_size : ChainSize
chain_size K s t c = chain_count c
