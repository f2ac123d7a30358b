-- The test for equal entries tells equal entries.
use Rattle.std.proofs.Common.{eqb, refl}
use Rattle.std.proofs.lemmas.Bool.{and_parts, eqb-true, eq-eqb}
use Rattle.algebra.proofs.Bags.{Equality}
use Rattle.algebra.proofs.Complete.{numbers_equality}
use Rattle.render.specs.Entries.{same_entry}

pub entry_equality : Equality same_entry
entry_equality = record {
  sound = λ a b e.
      let onset = and_parts (eqb a.onset b.onset) _ e in
      let length = and_parts (eqb a.length b.length) _ onset.1 in
      λ i. record {
        onset = eqb-true a.onset b.onset onset.0 i;
        length = eqb-true a.length b.length length.0 i;
        numbers = numbers_equality.sound a.numbers b.numbers length.1 i;
      };
  self = λ a. simp (eq-eqb a.onset a.onset refl, eq-eqb a.length a.length refl, numbers_equality.self a.numbers);
}
