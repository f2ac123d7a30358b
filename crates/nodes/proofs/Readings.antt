-- What a node of a row says of the score that begins there.
use Rattle.std.proofs.Common.{◌≡◌, ℕ, ◌+◌, ◌<◌, ◌≤◌, List, ◌++◌, length, get_or, take, drop, sym, refl, ap, ◌∙◌, arith}
use Rattle.std.proofs.lemmas.List.{length-map, get_or-map, get_or-drop}
use Rattle.algebra.specs.declared.numbers.Numbers.{Numbers}
use Rattle.algebra.specs.Score.{Score, Score.rest, Score.primitive, Score.sequence, Score.parallel, nodes}
use Rattle.algebra.specs.declared.node.Node.{Node}
use Rattle.algebra.specs.declared.node.Node.TheVariants.{Rest, Primitive, Sequence, Parallel}
use Rattle.algebra.specs.Layout.{seen, view, preorder, score_at, score_of}
use Rattle.nodes.specs.Pairs.{Pair}
use Rattle.nodes.proofs.Parts.{some_node, length_preorder, Within, here, sequence_left, sequence_right, parallel_left, parallel_right, place, place_end, inner, At, find, from_place, score_place, take_place, behind}

-- the first node of a score
abbrev pub top : Score → Node Numbers
top (rest d) = Rest d
top (primitive p) = Primitive p
top (sequence a b) = Sequence
top (parallel a b) = Parallel

top_first : (t : Score) (ys : List (Node Numbers)) (d : Node Numbers) → get_or (preorder t ++ ys) 0 d ≡ top t
top_first (rest n) ys d = refl
top_first (primitive p) ys d = refl
top_first (sequence a b) ys d = refl
top_first (parallel a b) ys d = refl

module _ (xs : List (Node Numbers)) (whole : xs ≡ preorder (score_of xs)) where
  pub long : length xs ≡ nodes (score_of xs)
  long = ap length whole ∙ length_preorder (score_of xs)

  pub at : (k : ℕ) → k < length xs → At (score_of xs) k
  at k h = find (score_of xs) k (omega (arith, long))

  -- the score that begins at a node, by its path
  pub begins : (k : ℕ) (h : k < length xs) → score_at xs k ≡ (at k h).part
  begins k h = ap (score_at xs) (sym (at k h).there) ∙ score_place xs (score_of xs) whole (at k h).path

  pub ends_inside : (k : ℕ) → k < length xs → k + nodes (score_at xs k) ≤ length xs
  ends_inside k h = omega (arith, ap nodes (begins k h), place_end (at k h).path, (at k h).there, long)

  pub nodes_there : (k : ℕ) → k < length xs → take (nodes (score_at xs k)) (drop k xs) ≡ preorder (score_at xs k)
  nodes_there k h =
      let w = at k h in
      ap (λ t. take (nodes t) (drop k xs)) (begins k h) ∙ ap (λ n. take (nodes w.part) (drop n xs)) (sym w.there) ∙ take_place xs (score_of xs) whole w.path ∙ ap preorder (sym (begins k h))

  pub top_there : (k : ℕ) → k < length xs → (d : Node Numbers) → get_or xs k d ≡ top (score_at xs k)
  top_there k h d =
      let w = at k h in
      let z : k + 0 ≡ k = omega arith in
      ap (λ n. get_or xs n d) (sym z) ∙ sym (get_or-drop k xs 0 d) ∙ ap (λ n. get_or (drop n xs) 0 d) (sym w.there) ∙ ap (λ ys. get_or ys 0 d) (from_place xs (score_of xs) whole w.path)
      ∙ top_first w.part (behind w.path) d ∙ ap top (sym (begins k h))

  pub deeper : {t u : Score} (p : Within (score_of xs) t) (q : Within t u) (k : ℕ) → place p + place q ≡ k → score_at xs k ≡ u
  deeper p q k e = let (r, there) = inner p q in ap (score_at xs) (sym e ∙ sym there) ∙ score_place xs (score_of xs) whole r

  sequence_found : (k : ℕ) (h : k < length xs) (t : Score) (p : Within (score_of xs) t) → place p ≡ k → top t ≡ Sequence → Pair sequence xs k (k + 1) (k + 1 + nodes (score_at xs (k + 1)))
  sequence_found k h (rest d) p there e = absurd (grind arith)
  sequence_found k h (primitive x) p there e = absurd (grind arith)
  sequence_found k h (parallel a b) p there e = absurd (grind arith)
  sequence_found k h (sequence a b) p there e =
      let l : score_at xs (k + 1) ≡ a = deeper p (sequence_left here) (k + 1) (omega arith) in
      let n = ap nodes l in
      let r : score_at xs (k + 1 + nodes (score_at xs (k + 1))) ≡ b = deeper p (sequence_right here) (k + 1 + nodes (score_at xs (k + 1))) (omega arith) in
      let m = ap nodes r in
      let s : score_at xs k ≡ sequence a b = deeper p here k (omega arith) in
      record {
        starts = refl;
        middle = refl;
        is = s ∙ ap (λ x. sequence x b) (sym l) ∙ ap (sequence (score_at xs (k + 1))) (sym r);
        ends = omega (arith, place_end p, long);
        right_some = omega (arith, some_node b);
        left_some = omega (arith, some_node a);
      }

  parallel_found : (k : ℕ) (h : k < length xs) (t : Score) (p : Within (score_of xs) t) → place p ≡ k → top t ≡ Parallel → Pair parallel xs k (k + 1) (k + 1 + nodes (score_at xs (k + 1)))
  parallel_found k h (rest d) p there e = absurd (grind arith)
  parallel_found k h (primitive x) p there e = absurd (grind arith)
  parallel_found k h (sequence a b) p there e = absurd (grind arith)
  parallel_found k h (parallel a b) p there e =
      let l : score_at xs (k + 1) ≡ a = deeper p (parallel_left here) (k + 1) (omega arith) in
      let n = ap nodes l in
      let r : score_at xs (k + 1 + nodes (score_at xs (k + 1))) ≡ b = deeper p (parallel_right here) (k + 1 + nodes (score_at xs (k + 1))) (omega arith) in
      let m = ap nodes r in
      let s : score_at xs k ≡ parallel a b = deeper p here k (omega arith) in
      record {
        starts = refl;
        middle = refl;
        is = s ∙ ap (λ x. parallel x b) (sym l) ∙ ap (parallel (score_at xs (k + 1))) (sym r);
        ends = omega (arith, place_end p, long);
        right_some = omega (arith, some_node b);
        left_some = omega (arith, some_node a);
      }

  rest_found : (s : Score) (d : ℕ) → top s ≡ Rest d → s ≡ rest d
  rest_found (rest n) d e = let z : n ≡ d = cc in ap rest z
  rest_found (primitive p) d e = absurd (grind arith)
  rest_found (sequence a b) d e = absurd (grind arith)
  rest_found (parallel a b) d e = absurd (grind arith)

  primitive_found : (s : Score) (p : Numbers) → top s ≡ Primitive p → s ≡ primitive p
  primitive_found (rest n) p e = absurd (grind arith)
  primitive_found (primitive q) p e = let z : q ≡ p = cc in ap primitive z
  primitive_found (sequence a b) p e = absurd (grind arith)
  primitive_found (parallel a b) p e = absurd (grind arith)

  -- by the node that stands there
  module _ (k : ℕ) (h : k < length xs) (n : Node Numbers) (is : top (score_at xs k) ≡ n) where
    pub rest_at : (d : ℕ) → n ≡ Rest d → score_at xs k ≡ rest d
    rest_at d e = rest_found (score_at xs k) d (is ∙ e)

    pub primitive_at : (p : Numbers) → n ≡ Primitive p → score_at xs k ≡ primitive p
    primitive_at p e = primitive_found (score_at xs k) p (is ∙ e)

    pub sequence_at : n ≡ Sequence → Pair sequence xs k (k + 1) (k + 1 + nodes (score_at xs (k + 1)))
    sequence_at e = let w = at k h in sequence_found k h w.part w.path w.there (ap top (sym (begins k h)) ∙ is ∙ e)

    pub parallel_at : n ≡ Parallel → Pair parallel xs k (k + 1) (k + 1 + nodes (score_at xs (k + 1)))
    parallel_at e = let w = at k h in parallel_found k h w.part w.path w.there (ap top (sym (begins k h)) ∙ is ∙ e)

-- what an element read in code says
module _ {P : Type 0} (f : P → Numbers) (row : List (Node P)) (whole : view f row ≡ preorder (score_of (view f row))) (k : ℕ) (h : k < length row) (node : Node P) (read : node ≡ get_or row k node) where
  pub inside : k < length (view f row)
  inside = omega (arith, length-map row (seen f))

  pub shown : top (score_at (view f row) k) ≡ seen f node
  shown = sym (top_there (view f row) whole k inside (seen f node)) ∙ get_or-map (seen f) row k node (seen f node) h ∙ ap (seen f) (sym read)

  pub read_rest : (d : ℕ) → node ≡ Rest d → score_at (view f row) k ≡ rest d
  read_rest d e = rest_at (view f row) whole k inside (seen f node) shown d (ap (seen f) e)

  pub read_primitive : (x : P) → node ≡ Primitive x → score_at (view f row) k ≡ primitive (f x)
  read_primitive x e = primitive_at (view f row) whole k inside (seen f node) shown (f x) (ap (seen f) e)

  pub read_sequence : node ≡ Sequence → Pair sequence (view f row) k (k + 1) (k + 1 + nodes (score_at (view f row) (k + 1)))
  read_sequence e = sequence_at (view f row) whole k inside (seen f node) shown (ap (seen f) e)

  pub read_parallel : node ≡ Parallel → Pair parallel (view f row) k (k + 1) (k + 1 + nodes (score_at (view f row) (k + 1)))
  read_parallel e = parallel_at (view f row) whole k inside (seen f node) shown (ap (seen f) e)
