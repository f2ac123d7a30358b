-- Two scores put together: their size, and their nodes.
use Rattle.std.proofs.Common.{◌≡◌, ℕ, ◌+◌, ◌*◌, ◌<◌, ◌≤◌, ◌≢◌, ◌⊎◌, List, [], ◌∷◌, ◌++◌, length, take, drop, set, sym, ap, ◌∙◌, inl, inr, arith}
use lib.Seq.{paste}
use Rattle.std.proofs.lemmas.List.{length-map, length-set, length-take-le, length-drop}
use Rattle.algebra.specs.declared.numbers.Numbers.{Numbers}
use Rattle.algebra.specs.declared.node.Node.{Node}
use Rattle.algebra.specs.Kind.{KindModel}
use Rattle.algebra.specs.Score.{Score, nodes, primitives, score_length}
use Rattle.algebra.specs.Layout.{seen, view}
use Rattle.nodes.specs.declared.join.Join.{Join}
use Rattle.nodes.specs.Joins.{joined, length_of}
use Rattle.nodes.specs.Rows.{overlaid, Wrote}
use Rattle.nodes.proofs.Joins.{joined_nodes, joined_primitives, joined_length}
use Rattle.nodes.proofs.Overlays.{front_same, back_same, overlaid_before, overlaid_after, overlaid_paste}
use Rattle.nodes.proofs.Writings.{wrote_length, wrote_then, wrote_as, wrote_put, wrote_copy}
use Rattle.building.specs.Sizes.{size_of}
use Rattle.rack.specs.declared.place.Place.{Place}
use Rattle.rack.specs.Places.{Apart, Counts}

-- the size, by what is noted of both
pub size_is : (K : KindModel) (j : Join) (s t : Score) (left right : Place) → Counts left s → Counts right t → (n : ℕ) → n ≡ length_of j (score_length K s) (score_length K t)
    → record { nodes = 1 + left.nodes + right.nodes; primitives = left.primitives + right.primitives; length = n } ≡ size_of K (joined j s t)
size_is K j s t left right l r n e =
    let count : 1 + left.nodes + right.nodes ≡ nodes (joined j s t) = omega (arith, joined_nodes j s t, l.nodes_are, r.nodes_are) in
    let sparse : left.primitives + right.primitives ≡ primitives (joined j s t) = omega (arith, joined_primitives j s t, l.primitives_are, r.primitives_are) in
    let long : n ≡ score_length K (joined j s t) = e ∙ sym (joined_length K j s t) in
    λ i. record { nodes = count i; primitives = sparse i; length = long i }

-- nodes that lie outside what is written are as they were
wrote_apart : {X : Type 0} (xs ys zs : List X) (to end a n m : ℕ) → to + length zs ≤ length xs → Wrote xs ys to end zs → Apart a n to m → length zs ≤ m → take n (drop a ys) ≡ take n (drop a xs)
wrote_apart xs ys zs to end a n m h w (inl l) le = front_same xs ys a n to l (ap (take to) w.row ∙ overlaid_before xs to zs h)
wrote_apart xs ys zs to end a n m h w (inr l) le =
    ap (take n) (back_same xs ys a (to + length zs) (omega arith) (ap (drop (to + length zs)) w.row ∙ overlaid_after xs to zs h))

module _ {P : Type 0} (f : P → Numbers) where
  -- a copy of some nodes of a row within it
  wrote_paste : (xs ys : List (Node P)) (to a n n' : ℕ) → n' ≡ n → a + n ≤ length xs → ys ≡ paste xs to (drop a xs) n' → Wrote (view f xs) (view f ys) to (to + n) (take n (drop a (view f xs)))
  wrote_paste xs ys to a n n' same h e =
      wrote_copy f xs ys xs a n to h (e ∙ ap (paste xs to (drop a xs)) same ∙ overlaid_paste xs to (drop a xs) n (omega (arith, length-drop a xs)))

  -- a node, and copies of two parts of the row behind it
  module _ (ns ns₂ ns₃ : List (Node P)) (to : ℕ) (node : Node P) (a n b m n' m' : ℕ) (n-is : n' ≡ n) (m-is : m' ≡ m)
      (room : to + 1 + n + m ≤ length ns) (a_in : a + n ≤ length ns) (b-in : b + m ≤ length ns) (a-apart : Apart a n to (1 + n + m)) (b-apart : Apart b m to (1 + n + m))
      (second : ns₂ ≡ paste (set ns to node) (to + 1) (drop a (set ns to node)) n') (third : ns₃ ≡ paste ns₂ (to + 1 + n) (drop b ns₂) m') where
    pub join_written : view f ns₃ ≡ overlaid (view f ns) to (seen f node ∷ (take n (drop a (view f ns)) ++ take m (drop b (view f ns))))
    join_written =
        let xs = view f ns in
        let ns₁ = set ns to node in
        let p = take n (drop a xs) in
        let x = seen f node ∷ [] in
        let long = length-map ns (seen f) in
        let long₁ = length-set ns to node in
        let p-long : length p ≡ n = length-take-le n (drop a xs) (omega (arith, length-drop a xs)) in
        let w₁ = wrote_put f ns to node (omega arith) in
        let p-same : take n (drop a (view f ns₁)) ≡ p = wrote_apart xs (view f ns₁) x to (to + 1) a n (1 + n + m) (omega arith) w₁ a-apart (omega arith) in
        let w₂ = wrote_as (view f ns₁) (view f ns₂) (to + 1) (to + 1 + n) p-same (wrote_paste ns₁ ns₂ (to + 1) a n n' n-is (omega arith) second) in
        let w₁₂ = wrote_then xs (view f ns₁) (view f ns₂) x p to (to + 1) (to + 1 + n) (omega arith) w₁ w₂ in
        let long₂ = wrote_length xs (view f ns₂) (x ++ p) to (to + 1 + n) (omega arith) w₁₂ in
        let q-same : take m (drop b (view f ns₂)) ≡ take m (drop b xs) = wrote_apart xs (view f ns₂) (x ++ p) to (to + 1 + n) b m (1 + n + m) (omega arith) w₁₂ b-apart (omega arith) in
        let w₃ = wrote_as (view f ns₂) (view f ns₃) (to + 1 + n) (to + 1 + n + m) q-same (wrote_paste ns₂ ns₃ (to + 1 + n) b m m' m-is (omega (arith, length-map ns₂ (seen f))) third) in
        (wrote_then xs (view f ns₂) (view f ns₃) (x ++ p) (take m (drop b xs)) to (to + 1 + n) (to + 1 + n + m) (omega arith) w₁₂ w₃).row

-- the segments of two places
pub segments_apart : (to a n m : ℕ) → a ≢ to → n ≤ 1023 → m ≤ 1023 → Apart (a * 1023) n (to * 1023) m
segments_apart to a n m ne h k = elim (side a to ne) [ inl l ↦ inl (omega arith) | inr l ↦ inr (omega arith) ]
  where
    side : (a to : ℕ) → a ≢ to → (a < to) ⊎ (to < a)
    side a to ne = grind arith
