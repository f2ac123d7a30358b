-- The placed primitives of a score in the order of a model.
use Rattle.std.proofs.Common.{◌≡◌, ◌+◌, true, false, List, [], length, sym, ap, ◌∙◌}
use Rattle.std.proofs.lemmas.List.{length-append}
use Rattle.algebra.specs.Bag.{ordered_after}
use Rattle.algebra.specs.Kind.{KindModel}
use Rattle.algebra.specs.Normal.{together, normal_after}
use Rattle.algebra.specs.Score.{Score, score_length, Placed, placed, same_placed}
use Rattle.algebra.proofs.ByPlaced.{after_by_placed, after_other_length}
use Rattle.algebra.proofs.Complete.{placed_equality}
use Rattle.algebra.proofs.Partners.{ordered_permuted}
use Rattle.algebra.proofs.Sizes.{length_permuted}
use Rattle.normal.specs.Writing.{lines_of}
use Rattle.partners.specs.Choosing.{chosen}

module _ (xs model : List Placed) where
  pub length_ordered : length (ordered_after same_placed xs model) ≡ length xs
  length_ordered = sym (length_permuted (ordered_permuted placed_equality xs model))

  -- those with a partner and those without are as many as there are
  pub length_both : length (chosen true xs [] model) + length (chosen false model [] xs) ≡ length xs
  length_both = sym (length-append (chosen true xs [] model) (chosen false model [] xs)) ∙ length_ordered

module _ (K : KindModel) (s model : Score) where
  -- of one length, the lines are in the model's order
  pub lines_after : score_length K s ≡ score_length K model → lines_of K (score_length K s) (ordered_after same_placed (placed K s) (placed K model)) ≡ normal_after K s model
  lines_after e = ap (together (score_length K s)) (sym (after_by_placed K s model e))

  -- of two lengths, they are as they are
  pub lines_alone : (score_length K s ≡ score_length K model → ⊥) → lines_of K (score_length K s) (placed K s) ≡ normal_after K s model
  lines_alone ne = ap (together (score_length K s)) (sym (after_other_length K s model ne))
