-- One entry more in the row of a roll.
use Rattle.std.proofs.Common.{◌≡◌, ℕ, suc, ◌+◌, ◌<◌, ◌≤◌, cond, List, [], ◌∷◌, ◌++◌, length, take, drop, set, Some, None, sym, refl, ap, ◌∙◌, ap₂, arith}
use mathlib.Core.Path.{fun_ext}
use Rattle.std.proofs.lemmas.List.{take_more_set, length_push, length-set, length-take, length-take-le, drop-drop, drop-set-lt}
use Rattle.std.proofs.lemmas.Bool.{lt-ltb, le-ltb}
use Rattle.std.specs.Option.{option_map}
use Rattle.render.specs.Entries.{same_entry, times_in}
use Rattle.render.specs.Roll.{bag_of, with_entry, held_with, behind}
use Rattle.render.specs.RollLaw.{times_either}
use Rattle.render.specs.declared.entry.Entry.{Entry}

times_push : (es : List Entry) (e x : Entry) → times_in (es ++ e ∷ []) x ≡ times_in (e ∷ es) x
times_push [] e x = refl
times_push (f ∷ es) e x =
    ap (λ n. cond (same_entry x f) (suc n) n) (times_push es e x) ∙ times_either (same_entry x e) (same_entry x f) (times_in es x)

bag_push : (es : List Entry) (e : Entry) → bag_of (es ++ e ∷ []) ≡ with_entry e (bag_of es)
bag_push es e = ap₂ (λ number times. record { number = number; times = times }) (length_push es e ∙ omega arith) (fun_ext (times_push es e))

module _ (row : List Entry) (n : ℕ) (e : Entry) where
  -- with room, the entry is held
  pub held_more : n < length row → Some (bag_of (take (n + 1) (set row n e))) ≡ held_with (length row) e (Some (bag_of (take n row)))
  held_more room =
      ap Some (ap bag_of (take_more_set row n e room) ∙ bag_push (take n row) e)
      ∙ ap (λ t. cond t (Some (with_entry e (bag_of (take n row)))) None) (sym (lt-ltb (length (take n row)) (length row) (simp length-take (omega arith))))

  -- without room, nothing is
  pub held_over : length row ≤ n → None ≡ held_with (length row) e (Some (bag_of (take n row)))
  held_over full =
      ap (λ t. cond t (Some (with_entry e (bag_of (take n row)))) None) (sym (le-ltb (length (take n row)) (length row) (simp length-take (omega arith))))

  -- behind the entry the row is as it was
  pub behind_more : (old : List Entry) → n < length row → behind row (Some (take n row)) ≡ behind old (Some (take n row)) → behind (set row n e) (Some (take (n + 1) (set row n e))) ≡ behind old (Some (take (n + 1) (set row n e)))
  behind_more old room same =
      let was : length (take n row) ≡ n = length-take-le n row (omega arith) in
      let is : length (take (n + 1) (set row n e)) ≡ n + 1 = length-take-le (n + 1) (set row n e) (simp length-set (omega arith)) in
      ap (λ k. Some (drop k (set row n e))) is
      ∙ ap Some (drop-set-lt (n + 1) row n e (omega arith) ∙ sym (drop-drop 1 n row))
      ∙ ap (λ k. Some (drop 1 (drop k row))) (sym was)
      ∙ ap (option_map (drop 1)) same
      ∙ ap (λ k. Some (drop 1 (drop k old))) was
      ∙ ap Some (drop-drop 1 n old)
      ∙ ap (λ k. Some (drop k old)) (sym is)
