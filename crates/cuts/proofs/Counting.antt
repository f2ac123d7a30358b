-- Counts of nodes.
use Rattle.std.proofs.Common.{◌≡◌, ℕ, zero, suc, ◌+◌, ◌*◌, ◌<◌, ◌≤◌, Bool, true, false, not, cond, eqb, List, [], ◌∷◌, ◌++◌, drop, sym, refl, ap, ◌∙◌, arith}
use Rattle.std.specs.List.{count_by, range_with_len}
use Rattle.std.proofs.lemmas.List.{append_assoc, append-nil, drop-drop, at_drop_all}
use Rattle.std.proofs.lemmas.List.Sums.{sum_by-cons, sum_by-append}
use Rattle.algebra.specs.declared.numbers.Numbers.{Numbers}
use Rattle.algebra.specs.declared.node.Node.{Node}
use Rattle.algebra.specs.declared.node.Node.TheVariants.{Rest, Primitive, Sequence, Parallel}
use Rattle.algebra.specs.Kind.{KindModel}
use Rattle.algebra.specs.Score.{Score, Score.rest, Score.primitive, Score.sequence, Score.parallel, nodes, primitives, score_length}
use Rattle.algebra.specs.Cuts.{reversed, uneven}
use Rattle.algebra.specs.Layout.{seen, view, preorder, stack}
use Rattle.algebra.proofs.CutSizes.{reverse_size}
use Rattle.nodes.specs.Scores.{part_at}
use Rattle.nodes.proofs.Parts.{length_preorder, stack_preorder, find, behind, from_place, score_place}
use Rattle.cuts.specs.Padding.{uneven_pair}

-- whether a node is a primitive
abbrev pub is_primitive : {P : Type 0} → Node P → Bool
is_primitive (Rest d) = false
is_primitive (Primitive x) = true
is_primitive Sequence = false
is_primitive Parallel = false

-- as a number
abbrev one : {P : Type 0} → Node P → ℕ
one x = cond (is_primitive x) 1 0

primitives_counted : (s : Score) → count_by is_primitive (preorder s) ≡ primitives s
primitives_counted (rest d) = refl
primitives_counted (primitive p) = refl
primitives_counted (sequence a b) =
    omega (arith, sum_by-cons one Sequence (preorder a ++ preorder b), sum_by-append one (preorder a) (preorder b), primitives_counted a, primitives_counted b)
primitives_counted (parallel a b) =
    omega (arith, sum_by-cons one Parallel (preorder a ++ preorder b), sum_by-append one (preorder a) (preorder b), primitives_counted a, primitives_counted b)

module _ {P : Type 0} (f : P → Numbers) where
  same : (x : Node P) → one x ≡ one (seen f x)
  same (Rest d) = refl
  same (Primitive x) = refl
  same Sequence = refl
  same Parallel = refl

  counted_view : (row : List (Node P)) → count_by is_primitive row ≡ count_by is_primitive (view f row)
  counted_view [] = refl
  counted_view (x ∷ row) = omega (arith, sum_by-cons one x row, sum_by-cons one (seen f x) (view f row), same x, counted_view row)

  -- the primitives of the score that a row is
  pub counted : (row : List (Node P)) (s : Score) → view f row ≡ preorder s → count_by is_primitive row ≡ primitives s
  counted row s is = counted_view row ∙ ap (count_by is_primitive) is ∙ primitives_counted s

-- how many uneven pairs there are in several scores
abbrev uneven_all : KindModel → List Score → ℕ
uneven_all K [] = 0
uneven_all K (s ∷ ss) = uneven K s + uneven_all K ss

module _ (K : KindModel) where
  -- a score's own, as a number
  abbrev own : Score → ℕ
  own s = cond (uneven_pair K s) 1 0

  either : (b : Bool) → ◌≡◌ {A = ℕ} (cond (not b) 1 0) (cond b 0 1)
  either true = refl
  either false = refl

  both_parts : (a b : Score) (ys : List (Node Numbers)) → uneven_all K (stack ((preorder a ++ preorder b) ++ ys)) ≡ uneven K a + (uneven K b + uneven_all K (stack ys))
  both_parts a b ys =
      ap (uneven_all K) (ap stack (append_assoc (preorder a) (preorder b) ys) ∙ stack_preorder a (preorder b ++ ys) ∙ ap (λ ss. a ∷ ss) (stack_preorder b ys))

  -- the first node of a row of scores
  first_node : (s : Score) (ys : List (Node Numbers)) → uneven_all K (stack (preorder s ++ ys)) ≡ own s + uneven_all K (stack (drop 1 (preorder s ++ ys)))
  first_node (rest d) ys = omega arith
  first_node (primitive p) ys = omega arith
  first_node (sequence a b) ys = omega (arith, ap (uneven_all K) (stack_preorder (sequence a b) ys), both_parts a b ys)
  first_node (parallel a b) ys =
      omega (arith, either (eqb (score_length K a) (score_length K b)), ap (uneven_all K) (stack_preorder (parallel a b) ys), both_parts a b ys)

  module _ (s : Score) where
    one_node : (k : ℕ) → k < nodes s → uneven_all K (stack (drop k (preorder s))) ≡ own (part_at s k) + uneven_all K (stack (drop (k + 1) (preorder s)))
    one_node k h =
        let xs = preorder s in
        let w = find s k h in
        let from : drop k xs ≡ preorder w.part ++ behind w.path = ap (λ n. drop n xs) (sym w.there) ∙ from_place xs s refl w.path in
        let begins : part_at s k ≡ w.part = ap (part_at s) (sym w.there) ∙ score_place xs s refl w.path in
        ap (λ ys. uneven_all K (stack ys)) from ∙ first_node w.part (behind w.path) ∙ (λ i. own (sym begins i) + uneven_all K (stack (drop 1 (sym from i))))
        ∙ ap (λ ys. own (part_at s k) + uneven_all K (stack ys)) (drop-drop 1 k xs)

    -- from a node on
    counted_from : (n k : ℕ) → k + n ≡ nodes s → count_by (λ at. uneven_pair K (part_at s at)) (range_with_len k n) ≡ uneven_all K (stack (drop k (preorder s)))
    counted_from zero k e = sym (at_drop_all (λ ys. uneven_all K (stack ys)) (preorder s) k (omega (arith, length_preorder s)))
    counted_from (suc n) k e =
        omega (arith, sum_by-cons (λ at. own (part_at s at)) k (range_with_len (k + 1) n), counted_from n (k + 1) (omega arith), one_node k (omega arith))

    -- the uneven pairs of a score, node by node
    pub uneven_counted : count_by (λ at. uneven_pair K (part_at s at)) (range_with_len 0 (nodes s)) ≡ uneven K s
    uneven_counted =
        let alone : stack (preorder s) ≡ s ∷ [] = ap stack (sym (append-nil (preorder s))) ∙ stack_preorder s [] in
        omega (arith, counted_from (nodes s) 0 (omega arith), ap (uneven_all K) alone)

uneven_most : (K : KindModel) (s : Score) → uneven K s ≤ nodes s
uneven_most K (rest d) = omega arith
uneven_most K (primitive p) = omega arith
uneven_most K (sequence a b) = omega (arith, uneven_most K a, uneven_most K b)
uneven_most K (parallel a b) = grind (arith, uneven_most K a, uneven_most K b)

-- a reverse has at most three times as many nodes
pub reversed_most : (K : KindModel) (s : Score) → nodes (reversed K s) ≤ 3 * nodes s
reversed_most K s = omega (arith, (reverse_size K s).1, uneven_most K s)
