-- The reverse of a parallel.
use Rattle.std.proofs.Common.{◌≡◌, ℕ, ◌+◌, ◌-◌, Bool, true, false, cond, ltb, [], ◌∷◌, ◌++◌, length, sym, refl, ap, ◌∙◌, arith}
use Rattle.std.proofs.lemmas.List.{length-append}
use Rattle.algebra.specs.declared.node.Node.TheVariants.{Rest, Sequence, Parallel}
use Rattle.algebra.specs.Kind.{KindModel}
use Rattle.algebra.specs.Score.{Score, Score.rest, Score.sequence, nodes, score_length}
use Rattle.algebra.specs.Cuts.{preceded, reversed}
use Rattle.algebra.specs.Layout.{preorder}
use Rattle.nodes.specs.declared.join.Join.{Join}
use Rattle.nodes.specs.declared.join.Join.TheVariants as joins
use Rattle.nodes.specs.Joins.{joined}
use Rattle.nodes.proofs.Parts.{length_preorder}
use Rattle.cuts.specs.Padding.{padding}

preceded_row : (n m : ℕ) (a : Score) → preorder (preceded n m a) ≡ padding n m ++ preorder a
preceded_row n m a = by_test (ltb m n)
  where
    by_test : (b : Bool) → preorder (cond b (sequence (rest (n - m)) a) a) ≡ cond b (Sequence ∷ (Rest (n - m) ∷ [])) [] ++ preorder a
    by_test true = refl
    by_test false = refl

module _ (K : KindModel) (s a b : Score) (j : Join) (m n : ℕ) (is : s ≡ joined j a b) (both : j ≡ joins.Parallel) (first : m ≡ score_length K a) (second : n ≡ score_length K b) where
  -- its parts, with some nodes before each
  pub reverse_row : preorder (reversed K s) ≡ Parallel ∷ ((padding n m ++ preorder (reversed K a)) ++ (padding m n ++ preorder (reversed K b)))
  reverse_row =
      ap (λ u. preorder (reversed K u)) (is ∙ ap (λ k. joined k a b) both)
      ∙ (λ i. Parallel ∷ (preceded_row (score_length K b) (score_length K a) (reversed K a) i ++ preceded_row (score_length K a) (score_length K b) (reversed K b) i))
      ∙ (λ i. Parallel ∷ ((padding (sym second i) (sym first i) ++ preorder (reversed K a)) ++ (padding (sym first i) (sym second i) ++ preorder (reversed K b))))

  pub reverse_nodes : nodes (reversed K s) ≡ 1 + length (padding n m) + nodes (reversed K a) + length (padding m n) + nodes (reversed K b)
  reverse_nodes =
      let us = padding n m ++ preorder (reversed K a) in
      let vs = padding m n ++ preorder (reversed K b) in
      omega (arith, length_preorder (reversed K s), ap length reverse_row, length-append us vs, length-append (padding n m) (preorder (reversed K a)), length-append (padding m n) (preorder (reversed K b)), length_preorder (reversed K a), length_preorder (reversed K b))
