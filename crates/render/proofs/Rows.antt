-- The front of a row, and a write to it.
use Rattle.std.proofs.Common.{◌≡◌, ℕ, ◌<◌, ◌≤◌, min, List, ◌++◌, length, take, drop, sym, ap, ◌∙◌, ⊎_elim, append-nil, arith}
use borrow.Rule.Slice.PartMut.{post_of}
use Rattle.std.proofs.lemmas.List.{take_all, take_at, drop_all, length-take}
use Rattle.std.proofs.lemmas.Slice.{drop-append-drop}
use Rattle.std.proofs.lemmas.Bool.{cases_lt}

module _ {X : Type 0} (row : List X) (most n : ℕ) (is : n ≡ min (length row) most) where
  -- places past the end are none
  pub front : take n row ≡ take most row
  front =
      ⊎_elim
      (λ (short : length row < most). take_all n row (omega arith) ∙ sym (take_all most row (omega arith)))
      (λ (full : most ≤ length row). ap (λ k. take k row) (omega arith))
      (cases_lt (length row) most)

  pub length_front : length (take n row) ≡ n
  length_front = simp length-take (omega arith)

  module _ (ys : List X) (size : length ys ≡ n) where
    -- a write to the front is what stands there
    pub take_written : take most (ys ++ post_of 0 n row) ≡ ys
    take_written =
        ⊎_elim
        (λ (short : length row < most). ap (λ zs. take most (ys ++ zs)) (drop_all n row (omega arith)) ∙ ap (take most) (append-nil ys) ∙ take_all most ys (omega arith))
        (λ (full : most ≤ length row). take_at ys (post_of 0 n row) most (omega arith))
        (cases_lt (length row) most)

    -- behind it the row is as it was
    pub drop_written : drop most (ys ++ post_of 0 n row) ≡ drop most row
    drop_written = drop-append-drop n row ys most (omega arith) (omega arith)
