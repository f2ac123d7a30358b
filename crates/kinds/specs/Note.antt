-- Notes: pitch 0 to 127, velocity 1 to 127, length 1 to 65,535, and 0.
use Rattle.std.specs.Prelude.{◌-◌, ◌&&◌, codes, ◌==◌, nat_le}
use Rattle.std.specs.declared.cmp.Ordering.TheVariants.{Equal}
use Rattle.algebra.specs.Kind.{KindModel, four, smaller_first}

-- A note is its own reverse, and only the length is cut.
abbrev pub note : KindModel
note = record {
  name = codes "note";
  legal = λ p. nat_le p.first 127 && (nat_le 1 p.second && (nat_le p.second 127 && (nat_le 1 p.third && (nat_le p.third 65535 && p.fourth == 0))));
  length_of = λ p. p.third;
  -- a higher pitch first, then a greater velocity, then a shorter length
  compare_of = λ p q. smaller_first q.first p.first (smaller_first q.second p.second (smaller_first p.third q.third Equal));
  reverse_of = λ p. p;
  head_of = λ k p. four p.first p.second k p.fourth;
  tail_of = λ k p. four p.first p.second (p.third - k) p.fourth;
}
