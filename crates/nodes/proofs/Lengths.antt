-- Lengths of held scores fit 32 bits.
use Rattle.std.proofs.Common.{◌≡◌, ℕ, ◌+◌, ◌*◌, ◌<◌, ◌≤◌, true, List, [], ◌∷◌, length, get_or, drop, sym, ap, ◌∙◌, subst, arith}
use Rattle.std.proofs.lemmas.List.{length-map, drop-map}
use Rattle.algebra.specs.declared.numbers.Numbers.{Numbers}
use Rattle.algebra.specs.declared.node.Node.{Node}
use Rattle.algebra.specs.declared.node.Node.TheVariants.{Rest, Primitive, Sequence, Parallel}
use Rattle.algebra.specs.Kind.{KindModel, LengthLaws}
use Rattle.algebra.specs.Score.{Score, Score.rest, Score.primitive, Score.sequence, Score.parallel, Legal, score_length, primitives}
use Rattle.algebra.specs.Layout.{seen, view, joined, stack, foremost, score_at, score_of}
use Rattle.nodes.specs.declared.span.Span.{Span}
use Rattle.nodes.specs.Held.{bare, Held}
use Rattle.nodes.specs.Spans.{no_span, Spanned}
use Rattle.nodes.proofs.Parts.{some_node, part_bare, part_primitives}
use Rattle.nodes.proofs.Readings.{long, at, begins}

module _ (K : KindModel) (laws : LengthLaws K) where
  pub at_most : (s : Score) → Legal K s → score_length K s ≤ bare s + 65535 * primitives s
  at_most (rest d) l = omega arith
  at_most (primitive p) l = omega (arith, laws.length_most p l)
  at_most (sequence a b) l = omega (arith, at_most a l.0, at_most b l.1)
  at_most (parallel a b) l = omega (arith, at_most a l.0, at_most b l.1)

  abbrev AllLegal : List Score → Type 0
  AllLegal [] = Unit {0}
  AllLegal (s ∷ ss) = Legal K s × AllLegal ss

  joined_sequence : (ss : List Score) → AllLegal ss → AllLegal (joined sequence ss)
  joined_sequence [] l = tt
  joined_sequence (a ∷ []) l = tt
  joined_sequence (a ∷ (b ∷ ss)) l = ((l.0, l.1.0), l.1.1)

  joined_parallel : (ss : List Score) → AllLegal ss → AllLegal (joined parallel ss)
  joined_parallel [] l = tt
  joined_parallel (a ∷ []) l = tt
  joined_parallel (a ∷ (b ∷ ss)) l = ((l.0, l.1.0), l.1.1)

  foremost_legal : (ss : List Score) → AllLegal ss → Legal K (foremost ss)
  foremost_legal [] l = tt
  foremost_legal (s ∷ ss) l = l.0

  module _ {P : Type 0} (f : P → Numbers) (ok : (x : P) → K.legal (f x) ≡ true) where
    stack_legal : (row : List (Node P)) → AllLegal (stack (view f row))
    stack_legal [] = tt
    stack_legal (Rest d ∷ row) = (tt, stack_legal row)
    stack_legal (Primitive x ∷ row) = (ok x, stack_legal row)
    stack_legal (Sequence ∷ row) = joined_sequence (stack (view f row)) (stack_legal row)
    stack_legal (Parallel ∷ row) = joined_parallel (stack (view f row)) (stack_legal row)

    -- the score that begins at any node
    pub legal_at : (row : List (Node P)) (k : ℕ) → Legal K (score_at (view f row) k)
    legal_at row k = subst (λ ys. Legal K (foremost (stack ys))) (sym (drop-map (seen f) k row)) (foremost_legal (stack (view f (drop k row))) (stack_legal (drop k row)))

    pub legal_row : (row : List (Node P)) → Legal K (score_of (view f row))
    legal_row row = legal_at row 0

    module _ (row : List (Node P)) (held : Held (view f row)) where
      -- far below 2 ^ 32
      pub length_part : (k : ℕ) → k < length row → score_length K (score_at (view f row) k) ≤ 27918165
      length_part k h =
          let xs = view f row in
          let i : k < length xs = omega (arith, length-map row (seen f)) in
          let w = at xs held.whole k i in
          let is = begins xs held.whole k i in
          omega (arith, at_most (score_at xs k) (legal_at row k), ap bare is, part_bare w.path, held.short, ap primitives is, part_primitives w.path, held.few)

      pub length_held : score_length K (score_of (view f row)) ≤ 27918165
      length_held = length_part 0 (omega (arith, length-map row (seen f), long (view f row) held.whole, some_node (score_of (view f row))))

      -- so the table has the length itself
      pub length_listed : (spans : List Span) → Spanned K (view f row) spans 0 → (k : ℕ) → k < length row → (get_or spans k no_span).length ≡ score_length K (score_at (view f row) k)
      length_listed spans spanned k h =
          ap (λ (s : Span). s.length) (spanned k (omega arith) (omega (arith, length-map row (seen f)))) ∙ omega (arith, length_part k h)

-- with each primitive counted as 0 a score is no longer
pub bare_at_most : (K : KindModel) (s : Score) → bare s ≤ score_length K s
bare_at_most K (rest d) = omega arith
bare_at_most K (primitive p) = omega arith
bare_at_most K (sequence a b) = omega (arith, bare_at_most K a, bare_at_most K b)
bare_at_most K (parallel a b) = omega (arith, bare_at_most K a, bare_at_most K b)
