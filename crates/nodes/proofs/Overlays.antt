-- Writes in a row, one after the other, and what they leave. Assumes nothing.
use Rattle.std.proofs.Common.{◌≡◌, ℕ, suc, ◌+◌, ◌-◌, ◌<◌, ◌≤◌, List, [], ◌∷◌, ◌++◌, map, length, take, drop, set, sym, refl, ap, ◌∙◌, arith}
use lib.Seq.{paste}
use Rattle.std.proofs.lemmas.List.{append_assoc, map-append, length-map, take-map, drop-map, length-append, length-take-le, length-drop, drop-take, take-take, take_at, drop_at, drop-drop, set_split, length-set, take-append-drop}
use Rattle.nodes.specs.Rows.{overlaid}

module _ {X : Type 0} where
  pub front_same : (xs ys : List X) (a n b : ℕ) → a + n ≤ b → take b ys ≡ take b xs → take n (drop a ys) ≡ take n (drop a xs)
  front_same xs ys a n b h e =
      let shown : (zs : List X) → take n (drop a zs) ≡ take n (drop a (take b zs)) =
      λ zs. sym (take-take n (b - a) (drop a zs) (omega arith)) ∙ ap (take n) (sym (drop-take a (b - a) zs) ∙ ap (λ k. drop a (take k zs)) (omega arith)) in
      shown ys ∙ ap (λ zs. take n (drop a zs)) e ∙ sym (shown xs)

  pub back_same : (xs ys : List X) (a b : ℕ) → b ≤ a → drop b ys ≡ drop b xs → drop a ys ≡ drop a xs
  back_same xs ys a b h e =
      let shown : (zs : List X) → drop a zs ≡ drop (a - b) (drop b zs) = λ zs. ap (λ k. drop k zs) (omega arith) ∙ sym (drop-drop (a - b) b zs) in
      shown ys ∙ ap (drop (a - b)) e ∙ sym (shown xs)

  module _ (xs : List X) (at : ℕ) (ys : List X) (fits : at + length ys ≤ length xs) where
    front_long : length (take at xs) ≡ at
    front_long = length-take-le at xs (omega arith)

    pub overlaid_before : take at (overlaid xs at ys) ≡ take at xs
    overlaid_before = take_at (take at xs) (ys ++ drop (at + length ys) xs) at front_long

    pub overlaid_from : drop at (overlaid xs at ys) ≡ ys ++ drop (at + length ys) xs
    overlaid_from = drop_at (take at xs) (ys ++ drop (at + length ys) xs) at front_long

    pub overlaid_here : take (length ys) (drop at (overlaid xs at ys)) ≡ ys
    overlaid_here = ap (take (length ys)) overlaid_from ∙ take_at ys (drop (at + length ys) xs) (length ys) refl

    pub overlaid_after : drop (at + length ys) (overlaid xs at ys) ≡ drop (at + length ys) xs
    overlaid_after = sym (drop-drop (length ys) at (overlaid xs at ys)) ∙ ap (drop (length ys)) overlaid_from ∙ drop_at ys (drop (at + length ys) xs) (length ys) refl

    pub overlaid_length : length (overlaid xs at ys) ≡ length xs
    overlaid_length = omega (arith, length-append (take at xs) (ys ++ drop (at + length ys) xs), length-append ys (drop (at + length ys) xs), front_long, length-drop (at + length ys) xs)

    -- one write right after another
    pub overlaid_next : (zs : List X) → overlaid (overlaid xs at ys) (at + length ys) zs ≡ overlaid xs at (ys ++ zs)
    overlaid_next zs =
        let both : take (at + length ys) (overlaid xs at ys) ≡ take at xs ++ ys =
        ap (take (at + length ys)) (sym (append_assoc (take at xs) ys (drop (at + length ys) xs)))
        ∙ take_at (take at xs ++ ys) (drop (at + length ys) xs) (at + length ys) (omega (arith, length-append (take at xs) ys, front_long)) in
        let left : drop (at + length ys + length zs) (overlaid xs at ys) ≡ drop (at + length (ys ++ zs)) xs =
        back_same xs (overlaid xs at ys) (at + length ys + length zs) (at + length ys) (omega arith) overlaid_after
        ∙ ap (λ k. drop k xs) (omega (arith, length-append ys zs)) in
        ap (λ us. us ++ (zs ++ drop (at + length ys + length zs) (overlaid xs at ys))) both
        ∙ ap (λ us. (take at xs ++ ys) ++ (zs ++ us)) left
        ∙ append_assoc (take at xs) ys (zs ++ drop (at + length (ys ++ zs)) xs)
        ∙ ap (λ us. take at xs ++ us) (sym (append_assoc ys zs (drop (at + length (ys ++ zs)) xs)))

  pub overlaid_set : (xs : List X) (at : ℕ) (x : X) → at < length xs → set xs at x ≡ overlaid xs at (x ∷ [])
  overlaid_set xs at x h =
      let next : suc at ≡ at + 1 = omega arith in
      set_split xs at x h ∙ ap (λ k. take at xs ++ (x ∷ drop k xs)) next

  pub overlaid_none : (xs : List X) (at : ℕ) → overlaid xs at [] ≡ xs
  overlaid_none xs at =
      let here : at + 0 ≡ at = omega arith in
      ap (λ k. take at xs ++ drop k xs) here ∙ take-append-drop at xs

  pub overlaid_two : (xs : List X) (at : ℕ) (x y : X) → at + 2 ≤ length xs → set (set xs at x) (at + 1) y ≡ overlaid xs at (x ∷ (y ∷ []))
  overlaid_two xs at x y h =
      overlaid_set (set xs at x) (at + 1) y (omega (arith, length-set xs at x))
      ∙ ap (λ us. overlaid us (at + 1) (y ∷ [])) (overlaid_set xs at x (omega arith))
      ∙ overlaid_next xs at (x ∷ []) (omega arith) (y ∷ [])

  pub overlaid_paste : (xs : List X) (at : ℕ) (s : List X) (n : ℕ) → n ≤ length s → paste xs at s n ≡ overlaid xs at (take n s)
  overlaid_paste xs at s n h =
      let long : n ≡ length (take n s) = sym (length-take-le n s h) in
      append_assoc (take at xs) (take n s) (drop (at + n) xs) ∙ ap (λ k. take at xs ++ (take n s ++ drop (at + k) xs)) long

-- the same of what stands there in other terms
pub overlaid-map : {X Y : Type 0} (f : X → Y) (xs : List X) (at : ℕ) (ys : List X) → map f (overlaid xs at ys) ≡ overlaid (map f xs) at (map f ys)
overlaid-map f xs at ys =
    map-append f (take at xs) (ys ++ drop (at + length ys) xs) ∙ ap (λ l. l ++ map f (ys ++ drop (at + length ys) xs)) (sym (take-map f at xs))
    ∙ ap (λ l. take at (map f xs) ++ l) (map-append f ys (drop (at + length ys) xs) ∙ (λ i. map f ys ++ (sym (drop-map f (at + length ys) xs) ∙ ap (λ n. drop (at + n) (map f xs)) (sym (length-map ys f))) i))

-- the front of a row, as far as what is written over it
pub overlaid_front : {X : Type 0} (xs : List X) (at : ℕ) (ys : List X) → at ≤ length xs → take (at + length ys) (overlaid xs at ys) ≡ take at xs ++ ys
overlaid_front xs at ys h =
    ap (take (at + length ys)) (sym (append_assoc (take at xs) ys (drop (at + length ys) xs)))
    ∙ take_at (take at xs ++ ys) (drop (at + length ys) xs) (at + length ys) (length-append (take at xs) ys ∙ ap (λ n. n + length ys) (length-take-le at xs h))
