-- Scores put behind the nodes of a list, and taken out of it again.
use Rattle.std.proofs.Common.{◌≡◌, ℕ, ◌-◌, ◌++◌, List, length, take, drop, Ok, Err, Result, sym, ap, ◌∙◌, arith}
use Rattle.std.proofs.lemmas.List.{length-drop, take_all, take_at, drop_at, drop-map}
use Rattle.algebra.specs.declared.numbers.Numbers.{Numbers}
use Rattle.algebra.specs.declared.node.Node.{Node}
use Rattle.algebra.specs.Score.{Score}
use Rattle.algebra.specs.Layout.{seen, view, preorder}
use Rattle.refusals.specs.declared.refusal.Refusal.{Refusal}
use Rattle.nodes.specs.Lists.{Listed}
use Rattle.building.specs.Rows.{laid, kept}

module _ (l put : Listed) (s : Score) (n : ℕ) (here : n ≡ length l.items) (is : put.items ≡ l.items ++ preorder s) where
  -- behind what stood in the list there is the score
  pub put_behind : {P : Type 0} (f : P → Numbers) (row : List (Node P)) → view f row ≡ put.items → view f (take (length row - n) (drop n row)) ≡ preorder s
  put_behind f row whole =
      ap (view f) (take_all (length row - n) (drop n row) (omega (arith, length-drop n row))) ∙ sym (drop-map (seen f) n row) ∙ ap (drop n) (whole ∙ is) ∙ drop_at l.items (preorder s) n (sym here)

  -- what an answer leaves
  pub kept_laid : {X : Type 0} (r : Result X Refusal) → put.room ≡ l.room → kept r n put ≡ laid r l s
  kept_laid (Ok x) same = λ i. record { items = is i; room = same i }
  kept_laid (Err e) same = λ i. record { items = (ap (take n) is ∙ take_at l.items (preorder s) n (sym here)) i; room = same i }
