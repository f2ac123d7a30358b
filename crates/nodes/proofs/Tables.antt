-- What the table of spans has for a node, from what it has behind it.
use Rattle.std.proofs.Common.{◌≡◌, ℕ, ◌+◌, ◌<◌, ◌≤◌, List, length, get_or, set, sym, refl, ap, ◌∙◌, subst, ⊎_elim, arith}
use Rattle.std.proofs.lemmas.Bool.{cases_eq}
use Rattle.std.proofs.lemmas.List.{get_or-set_same, get_or-set_other}
use Rattle.algebra.specs.declared.numbers.Numbers.{Numbers}
use Rattle.algebra.specs.declared.node.Node.{Node}
use Rattle.algebra.specs.declared.node.Node.TheVariants.{Rest, Primitive, Sequence, Parallel}
use Rattle.algebra.specs.Kind.{KindModel}
use Rattle.algebra.specs.Score.{Score, Score.sequence, Score.parallel, nodes}
use Rattle.algebra.specs.Layout.{score_at}
use Rattle.nodes.specs.declared.span.Span.{Span}
use Rattle.nodes.specs.Held.{Whole}
use Rattle.nodes.specs.Pairs.{Pair}
use Rattle.nodes.specs.Spans.{span_of, no_span, Spanned, right_of, PartsInside, Inside, sequence_span, parallel_span, next_span}
use Rattle.nodes.proofs.Readings.{top, rest_at, primitive_at, sequence_at, parallel_at}

module _ (K : KindModel) (xs : List (Node Numbers)) (whole : Whole xs) (small : length xs ≤ 1023) (spans : List Span) (room : length xs ≤ length spans) (at : ℕ) (behind : Spanned K xs spans (at + 1)) where
  record Listed (f : Score → Score → Score) : Type 0 where
    is : score_at xs at ≡ f (score_at xs (at + 1)) (score_at xs (right_of spans at))
    left_is : get_or spans (at + 1) no_span ≡ span_of K (score_at xs (at + 1))
    right_is : get_or spans (right_of spans at) no_span ≡ span_of K (score_at xs (right_of spans at))
    inside : PartsInside spans at

  listed : (f : Score → Score → Score) → Pair f xs at (at + 1) (at + 1 + nodes (score_at xs (at + 1))) → Listed f
  listed f p =
      let l = behind (at + 1) (omega arith) (omega (arith, p.ends, p.right_some)) in
      let n : nodes (score_at xs (at + 1)) ≡ (get_or spans (at + 1) no_span).nodes = sym (ap (λ (s : Span). s.nodes) l) in
      let q = subst (λ n. Pair f xs at (at + 1) (at + 1 + n)) n p in
      let r = behind (right_of spans at) (omega arith) (omega (arith, q.ends, q.right_some)) in
      let m : (get_or spans (right_of spans at) no_span).nodes ≡ nodes (score_at xs (right_of spans at)) = ap (λ (s : Span). s.nodes) r in
      record {
        is = q.is;
        left_is = l;
        right_is = r;
        inside = record { left = omega (arith, q.ends, q.right_some); right = omega (arith, q.ends, q.right_some); few = omega (arith, q.ends, m) };
      }

  sequence_is : (a b : Score) (x y : Span) → x ≡ span_of K a → y ≡ span_of K b → sequence_span x y ≡ span_of K (sequence a b)
  sequence_is a b x y e d =
      (λ i. sequence_span (e i) (d i)) ∙ ap (λ l. record { nodes = 1 + nodes a + nodes b; length = l }) (omega arith)

  parallel_is : (a b : Score) (x y : Span) → x ≡ span_of K a → y ≡ span_of K b → parallel_span x y ≡ span_of K (parallel a b)
  parallel_is a b x y e d =
      (λ i. parallel_span (e i) (d i)) ∙ ap (λ l. record { nodes = 1 + nodes a + nodes b; length = l }) (omega arith)

  module _ (h : at < length xs) where
    pub inside_at : (n : Node Numbers) → top (score_at xs at) ≡ n → Inside spans at n
    inside_at (Rest d) e = tt
    inside_at (Primitive p) e = tt
    inside_at Sequence e = (listed sequence (sequence_at xs whole at h Sequence e refl)).inside
    inside_at Parallel e = (listed parallel (parallel_at xs whole at h Parallel e refl)).inside

    -- a pair, by where the table has its right part
    moved : (f : Score → Score → Score) → Pair f xs at (at + 1) (at + 1 + nodes (score_at xs (at + 1))) → Pair f xs at (at + 1) (right_of spans at)
    moved f p =
        let l = behind (at + 1) (omega arith) (omega (arith, p.ends, p.right_some)) in
        subst (λ n. Pair f xs at (at + 1) (at + 1 + n)) (sym (ap (λ (s : Span). s.nodes) l)) p

    pub sees_sequence : top (score_at xs at) ≡ Sequence → Pair sequence xs at (at + 1) (right_of spans at)
    sees_sequence e = moved sequence (sequence_at xs whole at h Sequence e refl)

    pub sees_parallel : top (score_at xs at) ≡ Parallel → Pair parallel xs at (at + 1) (right_of spans at)
    sees_parallel e = moved parallel (parallel_at xs whole at h Parallel e refl)

    pub span_at : (n : Node Numbers) → top (score_at xs at) ≡ n → next_span K spans at n ≡ span_of K (score_at xs at)
    span_at (Rest d) e = ap (span_of K) (sym (rest_at xs whole at h (Rest d) e d refl))
    span_at (Primitive p) e = ap (span_of K) (sym (primitive_at xs whole at h (Primitive p) e p refl))
    span_at Sequence e =
        let t = listed sequence (sequence_at xs whole at h Sequence e refl) in
        sequence_is _ _ _ _ t.left_is t.right_is ∙ sym (ap (span_of K) t.is)
    span_at Parallel e =
        let t = listed parallel (parallel_at xs whole at h Parallel e refl) in
        parallel_is _ _ _ _ t.left_is t.right_is ∙ sym (ap (span_of K) t.is)

  -- one more span in the table
  pub spanned_more : (s : Span) → at < length xs → s ≡ span_of K (score_at xs at) → Spanned K xs (set spans at s) at
  spanned_more s h e i l j =
      ⊎_elim (λ same. subst (λ k. get_or (set spans at s) k no_span ≡ span_of K (score_at xs k)) (sym same) (get_or-set_same spans at s no_span (omega arith) ∙ e))
      (λ ne. get_or-set_other spans at i s no_span ne ∙ behind i (omega arith) j)
      (cases_eq i at)

-- how many nodes a score has, by the table
pub nodes_listed : (K : KindModel) (xs : List (Node Numbers)) (spans : List Span) → Spanned K xs spans 0 → (k : ℕ) → k < length xs → (get_or spans k no_span).nodes ≡ nodes (score_at xs k)
nodes_listed K xs spans spanned k h = ap (λ (s : Span). s.nodes) (spanned k (omega arith) h)
