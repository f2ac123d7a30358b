-- Notes keep the laws of a kind.
use Rattle.std.specs.Prelude.{◌≡◌, ℕ, ◌-◌, ◌≤◌, true, refl}
use Rattle.std.proofs.Common.{sym, ◌∙◌, arith}
use Rattle.algebra.specs.declared.numbers.Numbers.{Numbers}
use Rattle.algebra.specs.Kind.{KindLaws, four}
use Rattle.kinds.specs.Note.{note}
use Rattle.algebra.proofs.Orders.{first_equal, first_opposite, first_before}
use Rattle.kinds.specs.Numbers.{same_four}

record IsNote (p : Numbers) : Type 0 where
  pitch : p.first ≤ 127
  audible : 1 ≤ p.second
  velocity : p.second ≤ 127
  some : 1 ≤ p.third
  length : p.third ≤ 65535
  last : p.fourth ≡ 0

note_is : (p : Numbers) → note.legal p ≡ true → IsNote p
note_is p l = grind arith

is_note : (p : Numbers) → IsNote p → note.legal p ≡ true
is_note p n = grind arith

-- only the length is changed
cut : (k : ℕ) (p : Numbers) → note.legal p ≡ true → 1 ≤ k → k ≤ 65535 → note.legal (four p.first p.second k p.fourth) ≡ true
cut k p l a b = let n = note_is p l in is_note (note.head_of k p) (record { pitch = n.pitch; audible = n.audible; velocity = n.velocity; some = a; length = b; last = n.last })

pub note_laws : KindLaws note
note_laws = record {
  named = record { some = omega arith; short = omega arith; letters = ((omega arith, omega arith), ((omega arith, omega arith), ((omega arith, omega arith), ((omega arith, omega arith), tt)))) };
  words = λ p l. let n = note_is p l in record { first = omega (arith, n.pitch); second = omega (arith, n.velocity); third = omega (arith, n.length); fourth = omega (arith, n.last) };
  order = record {
    compare_self = λ p l. grind arith;
    compare_same = λ p q l m e.
        let a = first_equal q.first p.first _ e in
        let b = first_equal q.second p.second _ a.1 in
        let c = first_equal p.third q.third _ b.1 in
        same_four (sym a.0) (sym b.0) c.0 ((note_is p l).last ∙ sym (note_is q m).last);
    compare_opposite = λ p q l m. first_opposite q.first p.first _ _ (first_opposite q.second p.second _ _ (first_opposite p.third q.third _ _ refl));
    compare_before = λ p q r _ _ _ e d.
        first_before r.first q.first _ p.first _ _ (λ d e. first_before r.second q.second _ p.second _ _ (λ d e. first_before p.third q.third _ r.third _ _ (λ x y. x) e d) d e) d e;
  };
  lengths = record { length_least = λ p l. (note_is p l).some; length_most = λ p l. (note_is p l).length };
  reverses = record { reverse_legal = λ p l. l; reverse_length = λ p l. refl; reverse_twice = λ p l. refl };
  cuts = record {
    head_legal = λ k p l a b. cut k p l a (omega (arith, b, (note_is p l).length));
    head_length = λ k p l a b. refl;
    head_whole = λ p l. refl;
    tail_legal = λ k p l a. cut (p.third - k) p l (omega arith) (omega (arith, (note_is p l).length));
    tail_length = λ k p l a. refl;
    tail_whole = λ p l. same_four refl refl (omega arith) refl;
    reverse_head = λ k p l a b. same_four refl refl (omega arith) refl;
    head_head = λ j k p l a b c. refl;
    tail_tail = λ j k p l a. same_four refl refl (omega arith) refl;
    tail_head = λ j k p l a b. refl;
  };
}
