-- Readers of parts make a reader of the whole.
use Rattle.std.proofs.Common.{◌≡◌, ℕ, List, [], ◌∷◌, ◌++◌, length, get_or, drop, sym, refl, ap, ◌∙◌, subst, append_assoc, arith, Bor}
use Rattle.std.proofs.lemmas.Grind.{common_steps}
use mathlib.Core.List.{append_cancel_left}
use Rattle.std.proofs.lemmas.List.{length-append}
use Rattle.refusals.specs.declared.refusal.Refusal.{Refusal}
use Rattle.refusals.specs.declared.refusal.Section.{Section}
use Rattle.reading.specs.declared.reader.Reader.{Reader}
use Rattle.reading.specs.Languages.{Just, Then}
use Rattle.reading.specs.Passing.{Opens, Any, Agrees, Sure, Stuck, Passed, Stopped, Faulty, Over, Fault}

-- each word of M begins in G
abbrev pub Follows : (ℕ → Type 0) → (List ℕ → Type 0) → Type 0
Follows G M = (v z : List ℕ) → M v → Opens G (v ++ z)

pub opens_any : (s : List ℕ) → Opens Any s
opens_any [] = tt
opens_any (b ∷ s) = tt

pub follows_any : (M : List ℕ → Type 0) → Follows Any M
follows_any M v z m = opens_any (v ++ z)

pub follows_just : (G : ℕ → Type 0) (b : ℕ) (t : List ℕ) → G b → Follows G (Just (b ∷ t))
follows_just G b t g v z e = subst (λ l. Opens G (l ++ z)) (sym e) g

pub follows_then : (G : ℕ → Type 0) (L M : List ℕ → Type 0) → Follows G L → Follows G (Then L M)
follows_then G L M f v z w =
    subst (Opens G) (sym (append_assoc w.front w.back z) ∙ ap (λ l. l ++ z) (sym w.split)) (f w.front (w.back ++ z) w.first)

agrees_on : (q t x : List ℕ) → Agrees t x → Agrees (q ++ t) (q ++ x)
agrees_on [] t x a = a
agrees_on (b ∷ q) t x a = (q ++ x, refl)

pub agrees_self : (t : List ℕ) → Agrees t t
agrees_self [] = refl
agrees_self (b ∷ t) = (t, refl)

pub opens_agrees : (G : ℕ → Type 0) (t x : List ℕ) → Agrees t x → Opens G t → Opens G x
opens_agrees G [] x a o = subst (Opens G) (sym a) tt
opens_agrees G (b ∷ t) x a o = subst (Opens G) (sym a.1) o

-- a part, and then another
module _ (L M : List ℕ → Type 0) (G H : ℕ → Type 0) (f : Follows G M) where
  behind : (p x u z : List ℕ) (w : Then L M u) → p ++ x ≡ u ++ z → p ++ x ≡ w.front ++ (w.back ++ z)
  behind p x u z w e = grind (arith, common_steps)

  then_sure : (p q t : List ℕ) → Sure L G p (q ++ t) → Sure M H q t → Sure (Then L M) H (p ++ q) t
  then_sure p q t s₁ s₂ = λ v z x a w oz e.
      let e' : p ++ (q ++ x) ≡ w.front ++ (w.back ++ z) = sym (append_assoc p q x) ∙ behind (p ++ q) x v z w e in
      let one : p ≡ w.front = s₁ w.front (w.back ++ z) (q ++ x) (agrees_on q t x a) w.first (f w.back z w.second) e' in
      let two : q ≡ w.back = s₂ w.back z x a w.second oz (append_cancel_left p _ _ (e' ∙ ap (λ l. l ++ (w.back ++ z)) (sym one))) in
      (λ i. one i ++ two i) ∙ sym w.split

  then_stuck : (p q t : List ℕ) → Sure L G p (q ++ t) → Stuck M H q t → Stuck (Then L M) H (p ++ q) t
  then_stuck p q t s k = λ u z x a w oz e.
      let e' : p ++ (q ++ x) ≡ w.front ++ (w.back ++ z) = sym (append_assoc p q x) ∙ behind (p ++ q) x u z w e in
      let one : p ≡ w.front = s w.front (w.back ++ z) (q ++ x) (agrees_on q t x a) w.first (f w.back z w.second) e' in
      k w.back z x a w.second oz (append_cancel_left p _ _ (e' ∙ ap (λ l. l ++ (w.back ++ z)) (sym one)))

  first_stuck : (p t : List ℕ) → Stuck L G p t → Stuck (Then L M) H p t
  first_stuck p t k = grind (arith, common_steps)

module _ {L M : List ℕ → Type 0} {G H : ℕ → Type 0} (f : Follows G M) where
  pub then_passed : {text v w : List ℕ} {a b c : ℕ} → Passed L G v text a b → Passed M H w text b c → Passed (Then L M) H (v ++ w) text a c
  then_passed {text} {v} {w} {a} {b} {c} p q = record {
    moved = omega (arith, p.moved, q.moved, length-append v w);
    within = q.within;
    is = record { front = v; back = w; first = p.is; second = q.is; split = refl };
    split = p.split ∙ ap (λ l. v ++ l) q.split ∙ sym (append_assoc v w (drop c text));
    sure = then_sure L M G H f v w (drop c text) (subst (Sure L G v) q.split p.sure) q.sure;
  }

  -- the first part is read, and the second refused
  pub then_stopped : {text v : List ℕ} {a b c : ℕ} → Passed L G v text a b → Stopped M H text b c → Stopped (Then L M) H text a c
  then_stopped {text} {v} {a} {b} {c} p q = record {
    after = omega (arith, p.moved, q.after);
    within = q.within;
    front = v ++ q.front;
    split = p.split ∙ ap (λ l. v ++ l) q.split ∙ sym (append_assoc v q.front (drop c text));
    more = q.more;
    begun = record { front = v; back = q.front ++ q.more; first = p.is; second = q.begun; split = append_assoc v q.front q.more };
    stuck = then_stuck L M G H f v q.front (drop c text) (subst (Sure L G v) q.split p.sure) q.stuck;
  }

  -- the first part is refused, and the word m could have followed it
  pub first_stopped : {text : List ℕ} {a c : ℕ} (m : List ℕ) → M m → Stopped L G text a c → Stopped (Then L M) H text a c
  first_stopped {text} {a} {c} m is p = record {
    after = p.after;
    within = p.within;
    front = p.front;
    split = p.split;
    more = p.more ++ m;
    begun = record { front = p.front ++ p.more; back = m; first = p.begun; second = is; split = sym (append_assoc p.front p.more m) };
    stuck = first_stuck L M G H f p.front (drop c text) p.stuck;
  }

-- one of several kinds of word, told by the first byte b
same_first : (b : ℕ) (w t x r : List ℕ) → Agrees t x → w ++ t ≡ b ∷ r → (r' : List ℕ) × (w ++ x ≡ b ∷ r')
same_first b [] [] x r a e = absurd (omega (arith, ap length e))
same_first b [] (c ∷ t) x r a e = (a.0, a.1 ∙ ap (λ l. get_or l 0 0 ∷ a.0) e)
same_first b (c ∷ w) t x r a e = (w ++ x, ap (λ l. get_or l 0 0 ∷ (w ++ x)) e)

module _ (L M : List ℕ → Type 0) (G : ℕ → Type 0) (b : ℕ) (part : (w : List ℕ) → L w → M w) (only : (u z x : List ℕ) → M u → u ++ z ≡ b ∷ x → L u) where
  pub choose_passed : {w text : List ℕ} {from to : ℕ} (r : List ℕ) → drop from text ≡ b ∷ r → Passed L G w text from to → Passed M G w text from to
  choose_passed {w} {text} {from} {to} r begins p = record {
    moved = p.moved;
    within = p.within;
    is = part w p.is;
    split = p.split;
    sure = λ v z x a is oz e.
        let h = same_first b w (drop to text) x r a (sym p.split ∙ begins) in
        p.sure v z x a (only v z h.0 is (sym e ∙ h.1)) oz e;
  }

  pub choose_stopped : {text : List ℕ} {from to : ℕ} (r : List ℕ) → drop from text ≡ b ∷ r → Stopped L G text from to → Stopped M G text from to
  choose_stopped {text} {from} {to} r begins p = record {
    after = p.after;
    within = p.within;
    front = p.front;
    split = p.split;
    more = p.more;
    begun = part _ p.begun;
    stuck = λ v z x a is oz e.
        let h = same_first b p.front (drop to text) x r a (sym p.split ∙ begins) in
        p.stuck v z x a (only v z h.0 is (sym e ∙ h.1)) oz e;
  }

-- two names of one set of words, and less that may follow
module _ {L M : List ℕ → Type 0} {G H : ℕ → Type 0} (to-M : (w : List ℕ) → L w → M w) (to-L : (w : List ℕ) → M w → L w) (fewer : (z : List ℕ) → Opens H z → Opens G z) where
  pub same_passed : {w text : List ℕ} {from to : ℕ} → Passed L G w text from to → Passed M H w text from to
  same_passed p = grind (arith, common_steps)

  pub same_stopped : {text : List ℕ} {from to : ℕ} → Stopped L G text from to → Stopped M H text from to
  same_stopped p = grind (arith, common_steps)

-- what follows does not matter to L, and so not to a caller to whom it does
pub loose_passed : {L : List ℕ → Type 0} (G : ℕ → Type 0) {w text : List ℕ} {from to : ℕ} → Passed L Any w text from to → Passed L G w text from to
loose_passed G p = same_passed (λ w h. h) (λ w h. h) (λ z o. opens_any z) p

pub loose_stopped : {L : List ℕ → Type 0} (G : ℕ → Type 0) {text : List ℕ} {from to : ℕ} → Stopped L Any text from to → Stopped L G text from to
loose_stopped G p = same_stopped (λ w h. h) (λ w h. h) (λ z o. opens_any z) p

pub fault_map : {L M : List ℕ → Type 0} {G H : ℕ → Type 0} {text : List ℕ} {a b : ℕ} {section : Section} {e : Refusal} → ((offset : ℕ) → Stopped L G text a offset → Stopped M H text b offset) → Faulty L G text a section e → Faulty M H text b section e
fault_map f h = record { offset = h.offset; is = h.is; stopped = f h.offset h.stopped }

-- the same of readers, which keep their text and their section
pub passed_kept : {L : List ℕ → Type 0} {G : ℕ → Type 0} {w : List ℕ} {s t : Bor (List ℕ)} {from to : ℕ} → t ≡ s → Passed L G w t.now from to → Passed L G w s.now from to
passed_kept {L} {G} {w} {from = from} {to = to} e p = grind (arith, common_steps)

pub faulty_kept : {L : List ℕ → Type 0} {G : ℕ → Type 0} {s t : Bor (List ℕ)} {from : ℕ} {x y : Section} {e : Refusal} → t ≡ s → y ≡ x → Faulty L G t.now from y e → Faulty L G s.now from x e
faulty_kept {L} {G} {s} {from = from} {y = y} {e = e} kept section h = grind (arith, common_steps)

module _ {L M : List ℕ → Type 0} {G H : ℕ → Type 0} (f : Follows G M) where
  pub over_then : {v w : List ℕ} {s t u : Reader} → Over L G v s t → Over M H w t u → Over (Then L M) H (v ++ w) s u
  over_then p q = record {
    text = q.text ∙ p.text;
    section = q.section ∙ p.section;
    passed = then_passed f p.passed (passed_kept p.text q.passed);
  }

  pub fault_then : {v : List ℕ} {s t : Reader} {e : Refusal} → Over L G v s t → Fault M H t e → Fault (Then L M) H s e
  fault_then p h = fault_map (λ o k. then_stopped f p.passed k) (faulty_kept p.text p.section h)

  pub fault_first : (m : List ℕ) → M m → {text : List ℕ} {from : ℕ} {section : Section} {e : Refusal} → Faulty L G text from section e → Faulty (Then L M) H text from section e
  fault_first m is h = fault_map (λ o k. first_stopped f m is k) h
