-- The items of a term: its nodes, its primitives, where it begins, and how far it has to be looked at.
use Rattle.std.proofs.Common.{◌≡◌, ℕ, zero, suc, ◌+◌, ◌-◌, cond, ◌&&◌, ◌||◌, eqb, List, [], ◌∷◌, ◌++◌, length, get_or, take, Some, Option, sym, refl, ap, ◌∙◌, arith}
use Rattle.std.proofs.lemmas.List.{map-append, append-nil}
use Rattle.std.proofs.lemmas.List.Sums.{sum_by-cons, sum_by-append}
use Rattle.algebra.specs.declared.numbers.Numbers.{Numbers}
use Rattle.algebra.specs.declared.node.Node.{Node}
use Rattle.algebra.specs.declared.node.Node.TheVariants.{Sequence, Parallel}
use Rattle.algebra.specs.Score.{Score, Score.rest, Score.primitive, Score.sequence, Score.parallel, primitives}
use Rattle.algebra.specs.Layout.{preorder, stack, foremost, score_of}
use Rattle.grammar.specs.declared.item.Item.{Item}
use Rattle.grammar.specs.Files.{print}
use Rattle.grammar.specs.Items.{item, items, nodes_of}
use Rattle.grammar.specs.Loads.{holds_primitive, excess}
use Rattle.nodes.specs.Held.{Whole}
use Rattle.nodes.proofs.Parts.{stack_preorder}
use Rattle.loading.specs.Counts.{primitive_items}

pub nodes_items : (at : ℕ) (s : Score) → nodes_of (items at s) ≡ preorder s
nodes_items at (rest d) = refl
nodes_items at (primitive p) = refl
nodes_items at (sequence a b) =
    let from = at + 1 + length (print a) + 1 in
    ap (λ xs. Sequence ∷ xs) (map-append (λ (i : Item). i.node) (items (at + 1) a) (items from b) ∙ (λ i. nodes_items (at + 1) a i ++ nodes_items from b i))
nodes_items at (parallel a b) =
    let from = at + 1 + length (print a) + 1 in
    ap (λ xs. Parallel ∷ xs) (map-append (λ (i : Item). i.node) (items (at + 1) a) (items from b) ∙ (λ i. nodes_items (at + 1) a i ++ nodes_items from b i))

abbrev counts : Item → ℕ
counts i = cond (holds_primitive i.node) 1 0

pub primitives_items : (at : ℕ) (s : Score) → primitive_items (items at s) ≡ primitives s
primitives_items at (rest d) = refl
primitives_items at (primitive p) = refl
primitives_items at (sequence a b) =
    let left = items (at + 1) a in
    let right = items (at + 1 + length (print a) + 1) b in
    omega (arith, sum_by-cons counts (item Sequence at) (left ++ right), sum_by-append counts left right, primitives_items (at + 1) a, primitives_items (at + 1 + length (print a) + 1) b)
primitives_items at (parallel a b) =
    let left = items (at + 1) a in
    let right = items (at + 1 + length (print a) + 1) b in
    omega (arith, sum_by-cons counts (item Parallel at) (left ++ right), sum_by-append counts left right, primitives_items (at + 1) a, primitives_items (at + 1 + length (print a) + 1) b)

pub first_offset : (at : ℕ) (s : Score) (d : Item) → (get_or (items at s) 0 d).offset ≡ at
first_offset at (rest t) d = refl
first_offset at (primitive p) d = refl
first_offset at (sequence a b) d = refl
first_offset at (parallel a b) d = refl

-- an excess is found among one node more than may come
pub excess_front : (n m : ℕ) (is : List Item) → excess n m (take (suc n) is) ≡ excess n m is
excess_front n m [] = refl
excess_front zero m (i ∷ is) = refl
excess_front (suc n) m (i ∷ is) =
    let less : suc n - 1 ≡ n = omega arith in
    let more = cond (holds_primitive i.node) (m - 1) m in
    let shown : excess (suc n - 1) more (take (suc n) is) ≡ excess (suc n - 1) more is =
    ap (λ k. excess k more (take (suc n) is)) less ∙ excess_front n more is ∙ ap (λ k. excess k more is) (sym less) in
    ap (λ (found : Option ℕ). cond (eqb (suc n) 0 || (holds_primitive i.node && eqb m 0)) (Some i.offset) found) shown

module _ (xs : List (Node Numbers)) (s : Score) (laid : xs ≡ preorder s) where
  pub score_is : score_of xs ≡ s
  score_is = ap foremost (ap stack (laid ∙ sym (append-nil (preorder s))) ∙ stack_preorder s [])

  pub whole_from : Whole xs
  whole_from = laid ∙ ap preorder (sym score_is)
