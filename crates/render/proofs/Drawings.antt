-- The order of entering does not matter, and a loop over the entries makes the whole picture.
use Rattle.std.proofs.Common.{◌≡◌, ℕ, ◌+◌, ◌<◌, List, length, get_or, take, sym, refl, ap, ◌∙◌, ap₂}
use mathlib.Core.List.Permᴰ.{cons as permuted-cons}
use mathlib.Core.List.Permᴰ.{nil as permuted-nil}
use mathlib.Core.List.Permᴰ.{swap as permuted-swap}
use mathlib.Core.List.Permᴰ.{trans as permuted-trans}
use mathlib.Core.List.{Permᴰ as Permutation}
use Rattle.std.proofs.lemmas.List.Sums.{fold_more}
use Rattle.algebra.proofs.Bags.{permuted_from_counts}
use Rattle.render.specs.Drawings.{InEitherOrder, InAnyOrder, entered_all}
use Rattle.render.specs.declared.entry.Entry.{Entry}
use Rattle.render.proofs.Bags.{entry_equality}

module _ {P : Type 0} (entered : Entry → P → P) (either : (p : P) (a b : Entry) → entered b (entered a p) ≡ entered a (entered b p)) where
  pub permuted_drawn : {es fs : List Entry} (p : P) → Permutation es fs → entered_all entered es p ≡ entered_all entered fs p
  permuted_drawn p permuted-nil = refl
  permuted_drawn p (permuted-cons {a = a} {l₂ = fs} same rest) = permuted_drawn (entered a p) rest ∙ ap (λ e. entered_all entered fs (entered e p)) same
  permuted_drawn p (permuted-swap {a = a} {b = b} {l = es} same other) =
      ap (entered_all entered es) (either p a b ∙ ap₂ (λ x y. entered x (entered y p)) same other)
  permuted_drawn p (permuted-trans {l₂ = es} first second) = permuted_drawn p first ∙ permuted_drawn p second

pub any_order : {S P : Type 0} (entered : S → Entry → P → P) → InEitherOrder entered → InAnyOrder entered
any_order entered either s p es fs same = permuted_drawn (entered s) (either s) p (permuted_from_counts entry_equality es fs same)

module _ {S P : Type 0} (entered : S → Entry → P → P) (es : List Entry) (i : ℕ) (s t : S) (start p q : P) where
  -- one turn of a loop, at settings that are still those of its start
  pub drawn_more : (d : Entry) → i < length es → t ≡ s → p ≡ entered_all (entered s) (take i es) start → q ≡ entered t (get_or es i d) p → q ≡ entered_all (entered s) (take (i + 1) es) start
  drawn_more d within kept drawn now =
      now ∙ ap₂ (λ u r. entered u (get_or es i d) r) kept drawn ∙ sym (fold_more (λ r e. entered s e r) start es i d within)
