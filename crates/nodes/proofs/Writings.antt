-- One write after another.
use Rattle.std.proofs.Common.{◌≡◌, ℕ, ◌+◌, ◌<◌, ◌≤◌, List, [], ◌∷◌, ◌++◌, length, take, drop, set, sym, refl, ap, ◌∙◌, subst, arith}
use Rattle.std.proofs.lemmas.List.{length-map, length-append, map-set, map-append, take-map, drop-map, length-take-le, length-drop}
use Rattle.algebra.specs.declared.numbers.Numbers.{Numbers}
use Rattle.algebra.specs.declared.node.Node.{Node}
use Rattle.algebra.specs.Layout.{seen, view}
use Rattle.nodes.specs.Rows.{overlaid, Wrote}
use Rattle.nodes.proofs.Overlays.{overlaid_none, overlaid_set, overlaid_next, overlaid_length}

module _ {X : Type 0} where
  pub wrote_length : (xs ys zs : List X) (to end : ℕ) → to + length zs ≤ length xs → Wrote xs ys to end zs → length ys ≡ length xs
  wrote_length xs ys zs to end h w = ap length w.row ∙ overlaid_length xs to zs h

  pub wrote_then : (xs ys ws us vs : List X) (to mid end : ℕ) → to + length us ≤ length xs → Wrote xs ys to mid us → Wrote ys ws mid end vs → Wrote xs ws to end (us ++ vs)
  wrote_then xs ys ws us vs to mid end h v w = record {
    row = w.row ∙ ap (λ zs. overlaid zs mid vs) v.row ∙ ap (λ n. overlaid (overlaid xs to us) n vs) v.ends ∙ overlaid_next xs to us h vs;
    ends = omega (arith, v.ends, w.ends, length-append us vs);
  }

  pub wrote_as : (xs ys : List X) (to end : ℕ) {zs us : List X} → zs ≡ us → Wrote xs ys to end zs → Wrote xs ys to end us
  wrote_as xs ys to end e w = subst (λ us. Wrote xs ys to end us) e w

module _ {P : Type 0} (f : P → Numbers) where
  pub wrote_put : (xs : List (Node P)) (to : ℕ) (n : Node P) → to < length xs → Wrote (view f xs) (view f (set xs to n)) to (to + 1) (seen f n ∷ [])
  wrote_put xs to n h = record {
    row = map-set (seen f) xs to n ∙ overlaid_set (view f xs) to (seen f n) (omega (arith, length-map xs (seen f)));
    ends = refl;
  }

  pub wrote_copy : (xs ys : List (Node P)) (row : List (Node P)) (at count to : ℕ) → at + count ≤ length row → ys ≡ overlaid xs to (take count (drop at row))
      → Wrote (view f xs) (view f ys) to (to + count) (take count (drop at (view f row)))
  wrote_copy xs ys row at count to h e =
      let zs = take count (drop at row) in
      let z : take count (drop at (view f row)) ≡ view f zs = ap (take count) (drop-map (seen f) at row) ∙ take-map (seen f) count (drop at row) in
      let n : length zs ≡ count = length-take-le count (drop at row) (omega (arith, length-drop at row)) in
      let m : length (view f zs) ≡ count = length-map zs (seen f) ∙ n in
      wrote_as (view f xs) (view f ys) to (to + count) (sym z) (record {
        row = ap (view f) e ∙ map-append (seen f) (take to xs) (zs ++ drop (to + length zs) xs)
            ∙ ap (λ us. us ++ view f (zs ++ drop (to + length zs) xs)) (sym (take-map (seen f) to xs))
            ∙ ap (λ us. take to (view f xs) ++ us) (map-append (seen f) zs (drop (to + length zs) xs))
            ∙ ap (λ us. take to (view f xs) ++ (view f zs ++ us)) (sym (drop-map (seen f) (to + length zs) xs))
            ∙ ap (λ k. take to (view f xs) ++ (view f zs ++ drop (to + k) (view f xs))) (sym (length-map zs (seen f)));
        ends = omega (arith, m);
      })

module _ {X : Type 0} where
  -- a node, and then two parts
  pub wrote_pair : (xs xs₁ xs₂ xs₃ : List X) (to m₁ m₂ end : ℕ) (x : X) (us vs : List X) → to + length (x ∷ (us ++ vs)) ≤ length xs
      → Wrote xs xs₁ to m₁ (x ∷ []) → Wrote xs₁ xs₂ m₁ m₂ us → Wrote xs₂ xs₃ m₂ end vs → Wrote xs xs₃ to end (x ∷ (us ++ vs))
  wrote_pair xs xs₁ xs₂ xs₃ to m₁ m₂ end x us vs h a b c =
      let n = length-append us vs in
      let l = wrote_length xs xs₁ (x ∷ []) to m₁ (omega arith) a in
      wrote_then xs xs₁ xs₃ (x ∷ []) (us ++ vs) to m₁ end (omega arith) a (wrote_then xs₁ xs₂ xs₃ us vs m₁ m₂ end (omega (arith, l, a.ends)) b c)

  pub wrote_none : (xs : List X) (to : ℕ) → Wrote xs xs to to []
  wrote_none xs to = record { row = sym (overlaid_none xs to); ends = omega arith }
