-- How the readers of a term's parts make up a reader of terms.
use Rattle.std.proofs.Common.{◌≡◌, ℕ, ◌⊎◌, List, [], ◌∷◌, ◌++◌, length, get_or, codes, decimal, sym, refl, ap, ◌∙◌, subst, inl, inr, ⊎_elim, arith}
use Rattle.std.proofs.lemmas.Grind.{common_steps}
use Rattle.std.specs.List.{ContainsAt as Has}
use Rattle.refusals.specs.declared.refusal.Refusal.{Refusal}
use Rattle.algebra.specs.declared.numbers.Numbers.{Numbers}
use Rattle.algebra.specs.Kind.{Words}
use Rattle.algebra.specs.Score.{Score, Score.rest, Score.primitive, Score.sequence, Score.parallel}
use Rattle.grammar.specs.Files.{field, fields, print, Grammatical}
use Rattle.reading.specs.declared.reader.Reader.{Reader}
use Rattle.reading.specs.Languages.{Just, Then, OneOf, Numeral, Body, Field, Fields, Sign, Inside}
use Rattle.reading.specs.Passing.{Any, NoDigit, Over, Fault}
use Rattle.reading.specs.Taking.{NoMark}
use Rattle.reading.proofs.Composition.{Follows, follows_any, follows_then, over_then, fault_then, fault_first, fault_map, choose_passed, choose_stopped, loose_passed, loose_stopped}
use Rattle.reading.proofs.Steps.{has_first, has_second, has_only, has_cases, stopped_here, just_passed}
use Rattle.reading.proofs.Leaves.{mark_follows, sign_cases, sign_follows, no_only_mark}
use Rattle.reading.proofs.Whole.{some_body}

-- a pair, behind its parenthesis
close_follows : Follows NoDigit (OneOf (codes ")"))
close_follows = mark_follows 41 (λ d. omega arith)

abbrev Right : List ℕ → Type 0
Right = Then Body (OneOf (codes ")"))

some_close : OneOf (codes ")") (41 ∷ [])
some_close = (41, has_first 41 [], refl)

some_right : Right (print (rest 0) ++ (41 ∷ []))
some_right = record { front = print (rest 0); back = 41 ∷ []; first = some_body; second = some_close; split = refl }

some_signed : Then Sign Right (43 ∷ (print (rest 0) ++ (41 ∷ [])))
some_signed = record { front = 43 ∷ []; back = print (rest 0) ++ (41 ∷ []); first = (43, has_first 43 (124 ∷ []), refl); second = some_right; split = refl }

signed_follows : Follows NoDigit (Then Sign Right)
signed_follows = follows_then NoDigit Sign Right sign_follows

pub inside_1 : (s : Reader) {e : Refusal} → Fault Body NoDigit s e → Fault Inside Any s e
inside_1 s h = fault_first signed_follows _ some_signed h

pub inside_2 : {v : List ℕ} {s t : Reader} {e : Refusal} → Over Body NoDigit v s t → Fault Sign Any t e → Fault Inside Any s e
inside_2 p h = fault_then signed_follows p (fault_first (follows_any _) _ some_right h)

pub inside_3 : {v w : List ℕ} {s t u : Reader} {e : Refusal} → Over Body NoDigit v s t → Over Sign Any w t u → Fault Body NoDigit u e → Fault Inside Any s e
inside_3 p q h = fault_then signed_follows p (fault_then (follows_any _) q (fault_first close_follows (41 ∷ []) some_close h))

pub inside_4 : {v w x : List ℕ} {s t u y : Reader} {e : Refusal} → Over Body NoDigit v s t → Over Sign Any w t u → Over Body NoDigit x u y → NoMark (codes ")") y e → Fault Inside Any s e
inside_4 p q r h = fault_then signed_follows p (fault_then (follows_any _) q (fault_then close_follows r (no_only_mark h)))

pub inside_over : {v w x z : List ℕ} {s t u y o : Reader} → Over Body NoDigit v s t → Over Sign Any w t u → Over Body NoDigit x u y → Over (OneOf (codes ")")) Any z y o → Over Inside Any (v ++ (w ++ (x ++ z))) s o
inside_over p q r n = over_then signed_follows p (over_then (follows_any _) q (over_then close_follows r n))

-- the three kinds of term, each after its first byte
abbrev After : ℕ → (List ℕ → Type 0) → List ℕ → Type 0
After k L = Then (Just (k ∷ [])) L

rest_is : (w : List ℕ) → After 114 (Numeral 16777215) w → Body w
rest_is w h = (rest h.second.0, h.second.1, h.split ∙ (λ i. h.first i ++ h.second.2 i))

field_is : (v : List ℕ) (g : Field v) → v ≡ field g.first.0
field_is v g = g.split ∙ (λ i. g.first.2 i ++ (g.second.2 ∙ ap (λ b. b ∷ []) (has_only 44 g.second.0 g.second.1)) i)

primitive_is : (w : List ℕ) → After 112 Fields w → Body w
primitive_is w h =
    let f = h.second in
    let a = f.first in
    let b = f.second.first in
    let c = f.second.second.first in
    let d = f.second.second.second in (
      primitive (record { first = a.first.0; second = b.first.0; third = c.first.0; fourth = d.0 }),
      record { first = a.first.1; second = b.first.1; third = c.first.1; fourth = d.1 },
      h.split ∙ (λ i. h.first i ++ f.split i) ∙ (λ i. 112 ∷ (field_is _ a i ++ f.second.split i)) ∙
          (λ i. 112 ∷ (field a.first.0 ++ (field_is _ b i ++ f.second.second.split i))) ∙
          (λ i. 112 ∷ (field a.first.0 ++ (field b.first.0 ++ (field_is _ c i ++ d.2 i)))),
    )

pair_is : (w : List ℕ) → After 40 Inside w → Body w
pair_is w h =
    let f = h.second in
    let a = f.first in
    let o = f.second.first in
    let b = f.second.second.first in
    let z = f.second.second.second in
    let close : f.second.second.back ≡ 41 ∷ [] = z.2 ∙ ap (λ k. k ∷ []) (has_only 41 z.0 z.1) in
    let whole : (k : ℕ) → o.0 ≡ k → w ≡ 40 ∷ (print a.0 ++ (k ∷ (print b.0 ++ (41 ∷ [])))) = λ k e.
    h.split ∙ (λ i. h.first i ++ f.split i) ∙ (λ i. 40 ∷ (a.2 i ++ f.second.split i)) ∙
    (λ i. 40 ∷ (print a.0 ++ ((o.2 ∙ ap (λ x. x ∷ []) e) i ++ f.second.second.split i))) ∙
    (λ i. 40 ∷ (print a.0 ++ (k ∷ (b.2 i ++ close i)))) in
    ⊎_elim (λ e. (sequence a.0 b.0, (a.1, b.1), whole 43 e)) (λ e. (parallel a.0 b.0, (a.1, b.1), whole 124 e)) (sign_cases o.1)

first_byte : (t : Score) (u z x : List ℕ) (b : ℕ) → u ≡ print t → u ++ z ≡ b ∷ x → get_or (print t ++ z) 0 0 ≡ b
first_byte t u z x b e h = ap (λ l. get_or (l ++ z) 0 0) (sym e) ∙ ap (λ l. get_or l 0 0) h

rest_only : (u z x : List ℕ) → Body u → u ++ z ≡ 114 ∷ x → After 114 (Numeral 16777215) u
rest_only u z x h e = go h.0 h.1 h.2 (first_byte h.0 u z x 114 h.2 e)
  where
    go : (t : Score) → Grammatical t → u ≡ print t → get_or (print t ++ z) 0 0 ≡ 114 → After 114 (Numeral 16777215) u
    go (rest d) l is b = record { front = 114 ∷ []; back = decimal d; first = refl; second = (d, l, refl); split = is }
    go (primitive p) l is b = absurd (omega arith)
    go (sequence p q) l is b = absurd (omega arith)
    go (parallel p q) l is b = absurd (omega arith)

is_fields : (p : Numbers) → Words p → Fields (fields p)
is_fields p l = grind (arith, common_steps)

primitive_only : (u z x : List ℕ) → Body u → u ++ z ≡ 112 ∷ x → After 112 Fields u
primitive_only u z x h e = go h.0 h.1 h.2 (first_byte h.0 u z x 112 h.2 e)
  where
    go : (t : Score) → Grammatical t → u ≡ print t → get_or (print t ++ z) 0 0 ≡ 112 → After 112 Fields u
    go (rest d) l is b = absurd (omega arith)
    go (primitive p) l is b = record { front = 112 ∷ []; back = fields p; first = refl; second = is_fields p l; split = is }
    go (sequence p q) l is b = absurd (omega arith)
    go (parallel p q) l is b = absurd (omega arith)

is_inside : (k : ℕ) → Has (codes "+|") k → (p q : Score) → Grammatical p → Grammatical q → Inside (print p ++ (k ∷ (print q ++ (41 ∷ []))))
is_inside k one p q l m = record {
  front = print p;
  back = k ∷ (print q ++ (41 ∷ []));
  first = (p, l, refl);
  second = record {
    front = k ∷ [];
    back = print q ++ (41 ∷ []);
    first = (k, one, refl);
    second = record { front = print q; back = 41 ∷ []; first = (q, m, refl); second = some_close; split = refl };
    split = refl;
  };
  split = refl;
}

pair_only : (u z x : List ℕ) → Body u → u ++ z ≡ 40 ∷ x → After 40 Inside u
pair_only u z x h e = go h.0 h.1 h.2 (first_byte h.0 u z x 40 h.2 e)
  where
    of : (k : ℕ) → Has (codes "+|") k → (p q : Score) → Grammatical p → Grammatical q → u ≡ 40 ∷ (print p ++ (k ∷ (print q ++ (41 ∷ [])))) → After 40 Inside u
    of k one p q l m is = record { front = 40 ∷ []; back = print p ++ (k ∷ (print q ++ (41 ∷ []))); first = refl; second = is_inside k one p q l m; split = is }

    go : (t : Score) → Grammatical t → u ≡ print t → get_or (print t ++ z) 0 0 ≡ 40 → After 40 Inside u
    go (rest d) l is b = absurd (omega arith)
    go (primitive p) l is b = absurd (omega arith)
    go (sequence p q) l is b = of 43 (has_first 43 (124 ∷ [])) p q l.0 l.1 is
    go (parallel p q) l is b = of 124 (has_second 43 124 []) p q l.0 l.1 is

-- the first byte is read, and what follows it is read or refused
module _ (L : List ℕ → Type 0) (k : ℕ) (is : (w : List ℕ) → After k L w → Body w) (only : (u z x : List ℕ) → Body u → u ++ z ≡ k ∷ x → After k L u) {b : ℕ} (here : b ≡ k) where
  module _ {s t : Reader} (mark : Over (OneOf (codes "(rp")) Any (b ∷ []) s t) where
    first : Over (Just (k ∷ [])) Any (k ∷ []) s t
    first = subst (λ x. Over (Just (x ∷ [])) Any (x ∷ []) s t) here (record { text = mark.text; section = mark.section; passed = just_passed mark.passed })

    pub after_over : {w : List ℕ} {u : Reader} → Over L NoDigit w t u → Over Body NoDigit (k ∷ w) s u
    after_over p =
        let both = over_then (follows_any _) first p in
        record { text = both.text; section = both.section; passed = choose_passed (After k L) Body NoDigit k is only _ first.passed.split both.passed }

    pub after_fault : {e : Refusal} → Fault L NoDigit t e → Fault Body NoDigit s e
    after_fault h = fault_map (λ o p. choose_stopped (After k L) Body NoDigit k is only _ first.passed.split p) (fault_then (follows_any _) first h)

module _ {b : ℕ} {s t : Reader} (mark : Over (OneOf (codes "(rp")) Any (b ∷ []) s t) where
  pub rest_over : b ≡ 114 → (d : ℕ) {u : Reader} → Over (Numeral 16777215) NoDigit (decimal d) t u → Over Body NoDigit (print (rest d)) s u
  rest_over here d p = after_over (Numeral 16777215) 114 rest_is rest_only here mark p

  pub rest_fault : b ≡ 114 → {e : Refusal} → Fault (Numeral 16777215) NoDigit t e → Fault Body NoDigit s e
  rest_fault here h = after_fault (Numeral 16777215) 114 rest_is rest_only here mark h

  pub primitive_over : b ≡ 112 → (p : Numbers) {u : Reader} → Over Fields NoDigit (fields p) t u → Over Body NoDigit (print (primitive p)) s u
  primitive_over here p q = after_over Fields 112 primitive_is primitive_only here mark q

  pub primitive_fault : b ≡ 112 → {e : Refusal} → Fault Fields NoDigit t e → Fault Body NoDigit s e
  primitive_fault here h = after_fault Fields 112 primitive_is primitive_only here mark h

  pub pair_over : b ≡ 40 → {w : List ℕ} {u : Reader} → Over Inside Any w t u → Over Body NoDigit (40 ∷ w) s u
  pair_over here p = after_over Inside 40 pair_is pair_only here mark (record { text = p.text; section = p.section; passed = loose_passed NoDigit p.passed })

  pub pair_fault : b ≡ 40 → {e : Refusal} → Fault Inside Any t e → Fault Body NoDigit s e
  pair_fault here h = after_fault Inside 40 pair_is pair_only here mark (fault_map (λ o p. loose_stopped NoDigit p) h)

-- the first byte of a term
first_cases : {b : ℕ} → Has (codes "(rp") b → (b ≡ 40) ⊎ ((b ≡ 114) ⊎ (b ≡ 112))
first_cases {b} h =
    ⊎_elim (λ e. inl e) (λ k. ⊎_elim (λ e. inr (inl e)) (λ k'. inr (inr (has_only 112 b k'))) (has_cases 114 (112 ∷ []) b k)) (has_cases 40 (114 ∷ (112 ∷ [])) b h)

pub first_third : {b : ℕ} → Has (codes "(rp") b → (b ≡ 40 → ⊥) → (b ≡ 114 → ⊥) → b ≡ 112
first_third h one two = ⊎_elim (λ e. absurd (one e)) (⊎_elim (λ e. absurd (two e)) (λ e. e)) (first_cases h)

first_has : (t : Score) (z : List ℕ) → Has (codes "(rp") (get_or (print t ++ z) 0 0)
first_has (rest d) z = (1, omega arith, λ d. refl)
first_has (primitive p) z = (2, omega arith, λ d. refl)
first_has (sequence a b) z = (0, omega arith, λ d. refl)
first_has (parallel a b) z = (0, omega arith, λ d. refl)

print_some : (t : Score) → print t ≡ [] → ⊥
print_some (rest d) e = omega (arith, ap length e)
print_some (primitive p) e = omega (arith, ap length e)
print_some (sequence a b) e = omega (arith, ap length e)
print_some (parallel a b) e = omega (arith, ap length e)

-- no term begins here
pub no_term : {s : Reader} {e : Refusal} → NoMark (codes "(rp") s e → Fault Body NoDigit s e
no_term {s} h =
    let text = s.text.now in
    record {
      offset = s.at;
      is = h.is;
      stopped =
          stopped_here Body NoDigit text s.at s.within (print (rest 0)) some_body (λ b. print_some b.0 (sym b.2))
          (λ lt u z more b oz e.
          let same : get_or (print b.0 ++ z) 0 0 ≡ get_or text s.at 0 = sym (ap (λ l. get_or l 0 0) (e ∙ ap (λ l. l ++ z) b.2)) in
          h.none lt (subst (Has (codes "(rp")) same (first_has b.0 z)));
    }
