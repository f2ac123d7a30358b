-- Clips keep the laws of a kind.
use Rattle.std.specs.Prelude.{◌≡◌, ℕ, ◌+◌, ◌<◌, ◌≤◌, true, refl}
use Rattle.std.proofs.Common.{arith}
use Rattle.algebra.specs.declared.numbers.Numbers.{Numbers}
use Rattle.algebra.specs.Kind.{KindLaws}
use Rattle.kinds.specs.Clip.{clip}
use Rattle.algebra.proofs.Orders.{first_equal, first_opposite, first_before}
use Rattle.kinds.specs.Numbers.{same_four}

record IsClip (p : Numbers) : Type 0 where
  source : p.first ≤ 9999
  offset : p.second ≤ 16777215
  some : 1 ≤ p.third
  length : p.third ≤ 65535
  way : p.fourth ≤ 1
  end : p.second + p.third ≤ 16777216

clip_is : (p : Numbers) → clip.legal p ≡ true → IsClip p
clip_is p l = grind arith

is_clip : (p : Numbers) → IsClip p → clip.legal p ≡ true
is_clip p n = grind arith

clip_head : (k : ℕ) (p : Numbers) → clip.legal p ≡ true → 1 ≤ k → k ≤ p.third → IsClip (clip.head_of k p)
clip_head k p l a b = let n = clip_is p l in record { source = n.source; offset = grind arith; some = a; length = omega (arith, n.length); way = n.way; end = grind arith }

clip_tail : (k : ℕ) (p : Numbers) → clip.legal p ≡ true → k < p.third → IsClip (clip.tail_of k p)
clip_tail k p l a = let n = clip_is p l in record { source = n.source; offset = grind arith; some = omega arith; length = omega (arith, n.length); way = n.way; end = grind arith }

pub clip_laws : KindLaws clip
clip_laws = record {
  named = record { some = omega arith; short = omega arith; letters = ((omega arith, omega arith), ((omega arith, omega arith), ((omega arith, omega arith), ((omega arith, omega arith), tt)))) };
  words = λ p l. let n = clip_is p l in record { first = omega (arith, n.source); second = omega (arith, n.offset); third = omega (arith, n.length); fourth = omega (arith, n.way) };
  order = record {
    compare_self = λ p l. grind arith;
    compare_same = λ p q l m e.
        let a = first_equal p.first q.first _ e in
        let b = first_equal p.second q.second _ a.1 in
        let c = first_equal p.third q.third _ b.1 in
        let d = first_equal p.fourth q.fourth _ c.1 in
        same_four a.0 b.0 c.0 d.0;
    compare_opposite = λ p q l m. first_opposite p.first q.first _ _ (first_opposite p.second q.second _ _ (first_opposite p.third q.third _ _ (first_opposite p.fourth q.fourth _ _ refl)));
    compare_before = λ p q r _ _ _.
        first_before p.first q.first _ r.first _ _ (first_before p.second q.second _ r.second _ _ (first_before p.third q.third _ r.third _ _ (first_before p.fourth q.fourth _ r.fourth _ _ (λ x y. x))));
  };
  lengths = record { length_least = λ p l. (clip_is p l).some; length_most = λ p l. (clip_is p l).length };
  reverses = record {
    reverse_legal = λ p l. let n = clip_is p l in is_clip (clip.reverse_of p) (record { source = n.source; offset = n.offset; some = n.some; length = n.length; way = omega arith; end = n.end });
    reverse_length = λ p l. refl;
    reverse_twice = λ p l. let n = clip_is p l in same_four refl refl refl (omega arith);
  };
  cuts = record {
    head_legal = λ k p l a b. is_clip (clip.head_of k p) (clip_head k p l a b);
    head_length = λ k p l a b. refl;
    head_whole = λ p l. same_four refl (grind arith) refl refl;
    tail_legal = λ k p l a. is_clip (clip.tail_of k p) (clip_tail k p l a);
    tail_length = λ k p l a. refl;
    tail_whole = λ p l. same_four refl (grind arith) (omega arith) refl;
    reverse_head = λ k p l a b. let n = clip_is p l in same_four refl (grind arith) (omega arith) refl;
    head_head = λ j k p l a b c. same_four refl (grind arith) refl refl;
    tail_tail = λ j k p l a. same_four refl (grind arith) (omega arith) refl;
    tail_head = λ j k p l a b. same_four refl (grind arith) refl refl;
  };
}
