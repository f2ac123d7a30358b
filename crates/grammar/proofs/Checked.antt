-- What the checks of a file say of its term.
use Rattle.std.proofs.Common.{◌≡◌, ℕ, ◌+◌, ◌-◌, ◌≤◌, Bool, true, false, cond, ◌&&◌, ◌||◌, eqb, leb, List, [], ◌∷◌, ◌++◌, length, Some, None, Ok, Option, Result, refl, ap, ◌∙◌, subst, arith}
use Rattle.std.proofs.lemmas.List.{length-append}
use Rattle.std.proofs.lemmas.Bool.{eqb-true, eqb-false, eq-eqb, ne_eqb, leb-true, le-leb, or_parts, or_from, cond-true, cond-false}
use Rattle.algebra.specs.Kind.{KindModel}
use Rattle.algebra.specs.Score.{Score, Score.rest, Score.primitive, Score.sequence, Score.parallel, Legal, nodes, primitives, score_length}
use Rattle.refusals.specs.declared.refusal.Refusal.{Refusal}
use Rattle.refusals.specs.declared.refusal.Refusal.TheVariants.{TooManyInFile, IllegalNumbers, TooLongInFile, UntrueHead}
use Rattle.grammar.specs.declared.item.Item.{Item}
use Rattle.grammar.specs.Files.{print, File, ticks_offset, count_offset, body_offset}
use Rattle.grammar.specs.Items.{items}
use Rattle.grammar.specs.Loads.{holds_primitive, excess, legal_node, illegal, refused_at, provided, checked, file_of}
use Rattle.algebra.specs.Limits.{Holdable}

abbrev one_if : Bool → ℕ
one_if b = cond b 1 0

-- how many of the items are primitives
abbrev primitives_in : List Item → ℕ
primitives_in [] = 0
primitives_in (i ∷ is) = one_if (holds_primitive i.node) + primitives_in is

primitives_append : (is js : List Item) → primitives_in (is ++ js) ≡ primitives_in is + primitives_in js
primitives_append [] js = omega arith
primitives_append (i ∷ is) js = omega (arith, primitives_append is js)

length_items : (at : ℕ) (s : Score) → length (items at s) ≡ nodes s
length_items at (rest d) = refl
length_items at (primitive p) = refl
length_items at (sequence a b) =
    omega (arith, length-append (items (at + 1) a) (items (at + 1 + length (print a) + 1) b), length_items (at + 1) a, length_items (at + 1 + length (print a) + 1) b)
length_items at (parallel a b) =
    omega (arith, length-append (items (at + 1) a) (items (at + 1 + length (print a) + 1) b), length_items (at + 1) a, length_items (at + 1 + length (print a) + 1) b)

primitives_items : (at : ℕ) (s : Score) → primitives_in (items at s) ≡ primitives s
primitives_items at (rest d) = refl
primitives_items at (primitive p) = refl
primitives_items at (sequence a b) =
    omega (arith, primitives_append (items (at + 1) a) (items (at + 1 + length (print a) + 1) b), primitives_items (at + 1) a, primitives_items (at + 1 + length (print a) + 1) b)
primitives_items at (parallel a b) =
    omega (arith, primitives_append (items (at + 1) a) (items (at + 1 + length (print a) + 1) b), primitives_items (at + 1) a, primitives_items (at + 1 + length (print a) + 1) b)

-- there is room for one more node of n, and for one more primitive of m where the node is one
room_for : (n m : ℕ) (b : Bool) → (eqb n 0 || (b && eqb m 0)) ≡ false → (1 ≤ n) × (one_if b ≤ m)
room_for n m true e = let (a, c) = or_parts (eqb n 0) (eqb m 0) e in (omega (arith, eqb-false n 0 a), omega (arith, eqb-false m 0 c))
room_for n m false e = let (a, c) = or_parts (eqb n 0) false e in (omega (arith, eqb-false n 0 a), omega arith)

has_room : (n m : ℕ) (b : Bool) → 1 ≤ n → one_if b ≤ m → (eqb n 0 || (b && eqb m 0)) ≡ false
has_room n m true h k = or_from (eqb n 0) (eqb m 0) (ne_eqb n 0 (λ e. omega arith)) (ne_eqb m 0 (λ e. omega arith))
has_room n m false h k = or_from (eqb n 0) false (ne_eqb n 0 (λ e. omega arith)) refl

one_more : (b : Bool) (m x : ℕ) → one_if b ≤ m → x ≤ cond b (m - 1) m → one_if b + x ≤ m
one_more true m x h k = omega arith
one_more false m x h k = omega arith

one_less : (b : Bool) (m x : ℕ) → one_if b + x ≤ m → x ≤ cond b (m - 1) m
one_less true m x h = omega arith
one_less false m x h = omega arith

none_past : (t : Bool) (o : ℕ) (r : Option ℕ) → cond t (Some o) r ≡ None → (t ≡ false) × (r ≡ None)
none_past true o r e = absurd (grind arith)
none_past false o r e = (refl, e)

few : (n m : ℕ) (is : List Item) → excess n m is ≡ None → (length is ≤ n) × (primitives_in is ≤ m)
few n m [] e = (omega arith, omega arith)
few n m (i ∷ is) e =
    let b = holds_primitive i.node in
    let (room, more) = none_past (eqb n 0 || (b && eqb m 0)) i.offset (excess (n - 1) (cond b (m - 1) m) is) e in
    let (some, one) = room_for n m b room in
    let (l, p) = few (n - 1) (cond b (m - 1) m) is more in
    (omega arith, one_more b m (primitives_in is) one p)

none_over : (n m : ℕ) (is : List Item) → length is ≤ n → primitives_in is ≤ m → excess n m is ≡ None
none_over n m [] l p = refl
none_over n m (i ∷ is) l p =
    let b = holds_primitive i.node in
    cond-false (eqb n 0 || (b && eqb m 0)) (Some i.offset) (excess (n - 1) (cond b (m - 1) m) is) (has_room n m b (omega arith) (omega arith))
    ∙ none_over (n - 1) (cond b (m - 1) m) is (omega arith) (one_less b m (primitives_in is) p)

module _ (K : KindModel) where
  none_before : (t : Bool) (o : ℕ) (r : Option ℕ) → cond t r (Some o) ≡ None → (t ≡ true) × (r ≡ None)
  none_before true o r e = (refl, e)
  none_before false o r e = absurd (grind arith)

  legal_parts : (is js : List Item) → illegal K (is ++ js) ≡ None → (illegal K is ≡ None) × (illegal K js ≡ None)
  legal_parts [] js e = (refl, e)
  legal_parts (i ∷ is) js e =
      let (this, more) = none_before (legal_node K i.node) i.offset (illegal K (is ++ js)) e in
      let (left, right) = legal_parts is js more in
      (cond-true (legal_node K i.node) (illegal K is) (Some i.offset) this ∙ left, right)

  legal_both : (is js : List Item) → illegal K is ≡ None → illegal K js ≡ None → illegal K (is ++ js) ≡ None
  legal_both [] js l r = r
  legal_both (i ∷ is) js l r =
      let (this, more) = none_before (legal_node K i.node) i.offset (illegal K is) l in
      cond-true (legal_node K i.node) (illegal K (is ++ js)) (Some i.offset) this ∙ legal_both is js more r

  legal_term : (at : ℕ) (s : Score) → illegal K (items at s) ≡ None → Legal K s
  legal_term at (rest d) e = tt
  legal_term at (primitive p) e = (none_before (K.legal p) at None e).0
  legal_term at (sequence a b) e =
      let (l, r) = legal_parts (items (at + 1) a) (items (at + 1 + length (print a) + 1) b) e in
      (legal_term (at + 1) a l, legal_term (at + 1 + length (print a) + 1) b r)
  legal_term at (parallel a b) e =
      let (l, r) = legal_parts (items (at + 1) a) (items (at + 1 + length (print a) + 1) b) e in
      (legal_term (at + 1) a l, legal_term (at + 1 + length (print a) + 1) b r)

  none_illegal : (at : ℕ) (s : Score) → Legal K s → illegal K (items at s) ≡ None
  none_illegal at (rest d) l = refl
  none_illegal at (primitive p) l = cond-true (K.legal p) None (Some at) l
  none_illegal at (sequence a b) l = legal_both (items (at + 1) a) (items (at + 1 + length (print a) + 1) b) (none_illegal (at + 1) a l.0) (none_illegal (at + 1 + length (print a) + 1) b l.1)
  none_illegal at (parallel a b) l = legal_both (items (at + 1) a) (items (at + 1 + length (print a) + 1) b) (none_illegal (at + 1) a l.0) (none_illegal (at + 1 + length (print a) + 1) b l.1)

  not_refused : (o : Option ℕ) (e : ℕ → Refusal) (r : Result Score Refusal) (s : Score) → refused_at o e r ≡ Ok s → (o ≡ None) × (r ≡ Ok s)
  not_refused None e r s h = (refl, h)
  not_refused (Some at) e r s h = absurd (grind arith)

  was_provided : (b : Bool) (e : Refusal) (r : Result Score Refusal) (s : Score) → provided b e r ≡ Ok s → (b ≡ true) × (r ≡ Ok s)
  was_provided true e r s h = (refl, h)
  was_provided false e r s h = absurd (grind arith)

  unrefused : (o : Option ℕ) (e : ℕ → Refusal) (r : Result Score Refusal) (s : Score) → o ≡ None → r ≡ Ok s → refused_at o e r ≡ Ok s
  unrefused o e r s none h = ap (λ o. refused_at o e r) none ∙ h

  now_provided : (b : Bool) (e : Refusal) (r : Result Score Refusal) (s : Score) → b ≡ true → r ≡ Ok s → provided b e r ≡ Ok s
  now_provided b e r s is h = ap (λ b. provided b e r) is ∙ h

  -- a file that gives a score is the file of that score, which may be held
  pub record Gives (f : File) (s : Score) : Type 0 where
    pub ticks : f.ticks ≡ score_length K s
    pub count : f.count ≡ primitives s
    pub body : f.body ≡ s
    pub holdable : Holdable K s

  pub gives : (f : File) (s : Score) → checked K f ≡ Ok s → Gives f s
  gives f s e =
      let at = body_offset f in
      let t = f.body in
      let (none, e₁) = not_refused (excess 1023 170 (items at t)) TooManyInFile _ s e in
      let (legal, e₂) = not_refused (illegal K (items at t)) IllegalNumbers _ s e₁ in
      let (short, e₃) = was_provided (leb (score_length K t) 16777215) (TooLongInFile at) _ s e₂ in
      let (ticks, e₄) = was_provided (eqb f.ticks (score_length K t)) (UntrueHead (ticks_offset f)) _ s e₃ in
      let (count, e₅) = was_provided (eqb f.count (primitives t)) (UntrueHead (count_offset f)) _ s e₄ in
      let is : t ≡ s = cc in
      let (small, thin) = few 1023 170 (items at t) none in
      let holdable : Holdable K t = record {
        legal = legal_term at t legal;
        fits = record { few_nodes = omega (arith, length_items at t); few_primitives = omega (arith, primitives_items at t); short = leb-true (score_length K t) 16777215 short };
      } in
      record {
        ticks = eqb-true f.ticks (score_length K t) ticks ∙ ap (score_length K) is;
        count = eqb-true f.count (primitives t) count ∙ ap primitives is;
        body = is;
        holdable = subst (Holdable K) is holdable;
      }

  pub given : (s : Score) → Holdable K s → checked K (file_of K s) ≡ Ok s
  given s h =
      let at = body_offset (file_of K s) in
      unrefused (excess 1023 170 (items at s)) TooManyInFile _ s (none_over 1023 170 (items at s) (omega (arith, length_items at s, h.fits.few_nodes)) (omega (arith, primitives_items at s, h.fits.few_primitives)))
      (unrefused (illegal K (items at s)) IllegalNumbers _ s (none_illegal at s h.legal)
      (now_provided (leb (score_length K s) 16777215) (TooLongInFile at) _ s (le-leb (score_length K s) 16777215 h.fits.short)
      (now_provided (eqb (score_length K s) (score_length K s)) (UntrueHead (ticks_offset (file_of K s))) _ s (eq-eqb (score_length K s) (score_length K s) refl)
      (now_provided (eqb (primitives s) (primitives s)) (UntrueHead (count_offset (file_of K s))) (Ok s) s (eq-eqb (primitives s) (primitives s) refl) refl))))
