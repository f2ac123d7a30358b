-- Clips: source 0 to 9,999, offset 0 to 16,777,215, length 1 to 65,535, and way 0 (forward) or 1 (backward).
use Rattle.std.specs.Prelude.{◌+◌, ◌-◌, cond, ◌&&◌, codes, ◌==◌, nat_le}
use Rattle.std.specs.declared.cmp.Ordering.TheVariants.{Equal}
use Rattle.algebra.specs.Kind.{KindModel, four, smaller_first}

-- Offset plus length is at most 16,777,216. Reversing changes the way; a cut clip keeps its source and its way.
abbrev pub clip : KindModel
clip = record {
  name = codes "clip";
  legal = λ p. nat_le p.first 9999 && (nat_le p.second 16777215 && (nat_le 1 p.third && (nat_le p.third 65535 && (nat_le p.fourth 1 && nat_le (p.second + p.third) 16777216))));
  length_of = λ p. p.third;
  -- the smaller source first, then the smaller offset, length and way
  compare_of = λ p q. smaller_first p.first q.first (smaller_first p.second q.second (smaller_first p.third q.third (smaller_first p.fourth q.fourth Equal)));
  reverse_of = λ p. four p.first p.second p.third (1 - p.fourth);
  -- forward, a head keeps the offset; backward, it ends where the clip ends
  head_of = λ k p. four p.first (p.second + cond (p.fourth == 0) 0 (p.third - k)) k p.fourth;
  -- forward, a tail begins k ticks later; backward, it keeps the offset
  tail_of = λ k p. four p.first (p.second + cond (p.fourth == 0) k 0) (p.third - k) p.fourth;
}
