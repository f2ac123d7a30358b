-- Lists to which something was put behind what they held, once or several times.
use Rattle.std.proofs.Common.{◌≡◌, ◌+◌, List, [], ◌∷◌, ◌++◌, length, ap, ◌∙◌}
use Rattle.std.proofs.lemmas.List.{append_assoc, length-append}

module _ {X : Type 0} (xs : List X) where
  -- how long the list is then
  pub put_long : (us : List X) {ys : List X} → ys ≡ xs ++ us → length ys ≡ length xs + length us
  put_long us e = ap length e ∙ length-append xs us

  -- one after the other
  pub put_both : (us vs : List X) {ys zs : List X} → ys ≡ xs ++ us → zs ≡ ys ++ vs → zs ≡ xs ++ (us ++ vs)
  put_both us vs e d = d ∙ ap (λ l. l ++ vs) e ∙ append_assoc xs us vs

  -- one item, and then two lists
  pub put_pair : (x : X) (us vs : List X) {ys zs ws : List X} → ys ≡ xs ++ (x ∷ []) → zs ≡ ys ++ us → ws ≡ zs ++ vs → ws ≡ xs ++ (x ∷ (us ++ vs))
  put_pair x us vs a b c = put_both (x ∷ us) vs (put_both (x ∷ []) us a b) c
