-- The parts of a score that stands in a row stand there too, and have their spans.
use Rattle.std.proofs.Common.{◌≡◌, true, ℕ, ◌+◌, ◌<◌, ◌≤◌, List, length, get_or, take, drop, refl, sym, ap, ◌∙◌, subst, add-zero, arith}
use Rattle.std.proofs.lemmas.List.{length-map, length-take, length-drop, take-map, drop-map, get_or-take, get_or-drop}
use Rattle.algebra.specs.declared.numbers.Numbers.{Numbers}
use Rattle.algebra.specs.declared.node.Node.{Node}
use Rattle.algebra.specs.Kind.{KindModel, LengthLaws}
use Rattle.algebra.specs.Score.{Score, Score.sequence, Score.parallel, Legal, nodes, score_length}
use Rattle.algebra.specs.Layout.{seen, view, preorder, score_at, score_of}
use Rattle.algebra.specs.Limits.{Fits}
use Rattle.nodes.specs.declared.span.Span.{Span}
use Rattle.nodes.specs.declared.join.Join.{Join}
use Rattle.nodes.specs.declared.join.Join.TheVariants as joins
use Rattle.nodes.specs.declared.score.Look.{Look}
use Rattle.nodes.specs.declared.score.Look.TheVariants as looks
use Rattle.nodes.specs.Joins.{joined}
use Rattle.nodes.specs.Scores.{ShowsAt}
use Rattle.nodes.specs.Sights.{Seen}
use Rattle.nodes.specs.Held.{Held}
use Rattle.nodes.specs.Spans.{no_span, span_of, Spanned}
use Rattle.nodes.specs.Standing.{standing_score, Limited, Stands, Tabled, Standing}
use Rattle.nodes.proofs.Lengths.{legal_row, length_held}
use Rattle.nodes.proofs.Parts.{some_node, Within, here, sequence_left, sequence_right, parallel_left, parallel_right, part_primitives, place_end, length_preorder, find, score_place}
use Rattle.nodes.proofs.Shapes.{score_preorder}
use Rattle.nodes.proofs.Readings.{long, at, begins, ends_inside, nodes_there, deeper}
use Rattle.nodes.proofs.Tables.{nodes_listed}

-- a part is no longer, and its primitives are of the kind
pub part_length : (K : KindModel) {s t : Score} → Within s t → score_length K t ≤ score_length K s
part_length K here = omega arith
part_length K (sequence_left p) = omega (arith, part_length K p)
part_length K (sequence_right p) = omega (arith, part_length K p)
part_length K (parallel_left p) = omega (arith, part_length K p)
part_length K (parallel_right p) = omega (arith, part_length K p)

pub part_legal : (K : KindModel) {s t : Score} → Within s t → Legal K s → Legal K t
part_legal K here l = l
part_legal K (sequence_left p) l = part_legal K p l.0
part_legal K (sequence_right p) l = part_legal K p l.1
part_legal K (parallel_left p) l = part_legal K p l.0
part_legal K (parallel_right p) l = part_legal K p l.1

-- a held score keeps to the limits
pub held_stands : (K : KindModel) (laws : LengthLaws K) {P : Type 0} (f : P → Numbers) → ((x : P) → K.legal (f x) ≡ true) → (row : List (Node P)) → Held (view f row) → Stands K f row
held_stands K laws f ok row held =
    record {
      whole = held.whole;
      limited = record {
        legal = legal_row K laws f ok row;
        small = omega (arith, long (view f row) held.whole, held.small);
        few = held.few;
        short = length_held K laws f ok row held;
      };
    }

-- and so does a score that a place has room for
pub fitting_stands : (K : KindModel) (laws : LengthLaws K) {P : Type 0} (f : P → Numbers) → ((x : P) → K.legal (f x) ≡ true) → (row : List (Node P)) (s : Score) → view f row ≡ preorder s → Fits K s → Stands K f row
fitting_stands K laws f ok row s e h =
    let is : score_of (view f row) ≡ s = ap score_of e ∙ score_preorder s in
    record {
      whole = e ∙ ap preorder (sym is);
      limited = subst (Limited K) (sym is) (record { legal = subst (Legal K) is (legal_row K laws f ok row); small = h.few_nodes; few = h.few_primitives; short = omega (arith, h.short) });
    }

-- as many nodes as the row has
pub stands_long : {K : KindModel} {P : Type 0} (f : P → Numbers) (row : List (Node P)) → Stands K f row → length row ≡ nodes (standing_score f row)
stands_long f row h = sym (length-map row (seen f)) ∙ long (view f row) h.whole

pub stands_small : {K : KindModel} {P : Type 0} (f : P → Numbers) (row : List (Node P)) → Stands K f row → length row ≤ 1023
stands_small f row h = omega (arith, stands_long f row h, h.limited.small)

module _ (K : KindModel) {P : Type 0} (f : P → Numbers) (row : List (Node P)) (spans : List Span) (t : Tabled K f row spans) where
  pub nodes_long : length row ≡ nodes (standing_score f row)
  nodes_long = stands_long f row t.stands

  pub some_row : 0 < length row
  some_row = omega (arith, nodes_long, some_node (standing_score f row))

  -- a node of the score is one of the row
  pub node_within : {s : Score} → standing_score f row ≡ s → (k : ℕ) → k < nodes s → k < length row
  node_within e k h = omega (arith, nodes_long, ap nodes e)

  pub limited_as : {s : Score} → standing_score f row ≡ s → Limited K s
  limited_as e = subst (Limited K) e t.stands.limited

  module _ (k : ℕ) (h : k < length row) where
    within : k < length (view f row)
    within = omega (arith, length-map row (seen f))

    -- the part that begins at a node
    abbrev part : Score
    part = score_at (view f row) k

    pub span_nodes : (get_or spans k no_span).nodes ≡ nodes part
    span_nodes = nodes_listed K (view f row) spans t.spanned k within

    pub span_length : (get_or spans k no_span).length ≡ score_length K part
    span_length =
        let xs = view f row in
        let path = (at xs t.stands.whole k within).path in
        ap (λ (s : Span). s.length) (t.spanned k (omega arith) within)
        ∙ omega (arith, t.stands.limited.short, part_length K path, ap (score_length K) (begins xs t.stands.whole k within))

    pub part_inside : k + nodes part ≤ length row
    part_inside = omega (arith, ends_inside (view f row) t.stands.whole k within, length-map row (seen f))

    module _ (m : ℕ) (e : m ≡ nodes part) where
      pub part_row : view f (take m (drop k row)) ≡ preorder part
      part_row =
          sym (take-map (seen f) m (drop k row)) ∙ ap (take m) (sym (drop-map (seen f) k row)) ∙ ap (λ n. take n (drop k (view f row))) e ∙ nodes_there (view f row) t.stands.whole k within

      pub part_score : standing_score f (take m (drop k row)) ≡ part
      part_score = ap score_of part_row ∙ score_preorder part

      part_long : length (take m (drop k row)) ≡ nodes part
      part_long = sym (length-map (take m (drop k row)) (seen f)) ∙ ap length part_row ∙ length_preorder part

      part_stands : Stands K f (take m (drop k row))
      part_stands =
          let w = at (view f row) t.stands.whole k within in
          let is = part_score ∙ begins (view f row) t.stands.whole k within in
          let l = t.stands.limited in
          record {
            whole = part_row ∙ ap preorder (sym part_score);
            limited = subst (Limited K) (sym is) (record {
              legal = part_legal K w.path l.legal;
              small = omega (arith, place_end w.path, l.small);
              few = omega (arith, part_primitives w.path, l.few);
              short = omega (arith, part_length K w.path, l.short);
            });
          }

      part_spanned : Spanned K (view f (take m (drop k row))) (take m (drop k spans)) 0
      part_spanned i l j =
          let w = at (view f row) t.stands.whole k within in
          let is = begins (view f row) t.stands.whole k within in
          let n : i < nodes w.part = omega (arith, ap length part_row, length_preorder part, ap nodes is) in
          let q = find w.part i n in
          let there : score_at (view f row) (k + i) ≡ q.part = deeper (view f row) t.stands.whole w.path q.path (k + i) (omega (arith, w.there, q.there)) in
          let here : score_at (view f (take m (drop k row))) i ≡ q.part =
          ap (score_at (view f (take m (drop k row)))) (sym q.there) ∙ score_place (view f (take m (drop k row))) w.part (part_row ∙ ap preorder is) q.path in
          get_or-take m (drop k spans) i no_span (omega (arith, e, ap nodes is)) ∙ get_or-drop k spans i no_span
          ∙ t.spanned (k + i) (omega arith) (omega (arith, part_inside, ap nodes is, length-map row (seen f))) ∙ ap (span_of K) (there ∙ sym here)

      pub part_standing : Standing K f (take m (drop k row)) (take m (drop k spans))
      part_standing =
          let l : length (take m (drop k spans)) ≡ length (take m (drop k row)) = omega (arith, length-take m (drop k spans), length-drop k spans, length-take m (drop k row), length-drop k row, t.room, part_inside) in
          record { tabled = record { stands = part_stands; room = omega (arith, l); spanned = part_spanned }; just = l }

-- Where the parts of a pair begin in its row.
pub first_part : (j : Join) (a b : Score) → score_at (preorder (joined j a b)) 1 ≡ a
first_part joins.Sequence a b = score_place (preorder (sequence a b)) (sequence a b) refl (sequence_left here)
first_part joins.Parallel a b = score_place (preorder (parallel a b)) (parallel a b) refl (parallel_left here)

pub second_part : (j : Join) (a b : Score) → score_at (preorder (joined j a b)) (1 + nodes a) ≡ b
second_part joins.Sequence a b = ap (score_at (preorder (sequence a b))) (sym (add-zero (1 + nodes a))) ∙ score_place (preorder (sequence a b)) (sequence a b) refl (sequence_right here)
second_part joins.Parallel a b = ap (score_at (preorder (parallel a b))) (sym (add-zero (1 + nodes a))) ∙ score_place (preorder (parallel a b)) (parallel a b) refl (parallel_right here)

pub pair_nodes : (j : Join) (a b : Score) → nodes (joined j a b) ≡ 1 + nodes a + nodes b
pair_nodes joins.Sequence a b = refl
pair_nodes joins.Parallel a b = refl

-- what is seen at a node of a row is seen at that node of its score
seen_at : {P : Type 0} (f : P → Numbers) (s : Score) (at : ℕ) (look : Look P ℕ) → Seen f (preorder s) at look → ShowsAt f s at look
seen_at f s at (looks.Rest d) h = h
seen_at f s at (looks.Primitive x) h = h
seen_at f s at (looks.Pair joins.Sequence left right) h =
    record { is = h.is; left_inside = omega (arith, h.ends, h.middle, h.right_some, length_preorder s); right_inside = omega (arith, h.ends, h.right_some, length_preorder s) }
seen_at f s at (looks.Pair joins.Parallel left right) h =
    record { is = h.is; left_inside = omega (arith, h.ends, h.middle, h.right_some, length_preorder s); right_inside = omega (arith, h.ends, h.right_some, length_preorder s) }

pub shows_at : {P : Type 0} (f : P → Numbers) (xs : List (Node Numbers)) (s : Score) → xs ≡ preorder s → (at : ℕ) (look : Look P ℕ) → Seen f xs at look → ShowsAt f s at look
shows_at f xs s e at look h = seen_at f s at look (subst (λ ys. Seen f ys at look) e h)
