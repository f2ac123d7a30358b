-- Equal meanings have a chain, and a score's normal form after a model tells whether there is one.
use Rattle.std.proofs.Common.{◌≡◌, eqb, List, refl, ap, ap₂}
use mathlib.Core.List.Permᴰ.{refl as permuted-refl}
use mathlib.Core.List.{Permᴰ as Permutation}
use Rattle.std.proofs.lemmas.Bool.{and_parts, and_from, eqb-true, eq-eqb}
use Rattle.algebra.specs.Bag.{ordered_after}
use Rattle.algebra.specs.Kind.{KindModel}
use Rattle.algebra.specs.Score.{same_numbers}
use Rattle.algebra.specs.Score.{Score, score_length, Placed, placed, same_placed}
use Rattle.algebra.specs.Rules.{Chain}
use Rattle.algebra.specs.Normal.{same_line, line, lines, together, normal, normal_after}
use Rattle.algebra.specs.Meaning.{SameBag, SameMeaning}
use Rattle.algebra.specs.Theorems.{SoundAndComplete, NormalReached, AfterReached, SelfAfter, AfterDecides, BothAfterDecide}
use Rattle.algebra.proofs.Bags.{Equality, permuted_count, permuted_from_counts, permuted_map}
use Rattle.algebra.proofs.Sound.{Kept, chain_kept}
use Rattle.algebra.proofs.Chains.{◌⟫◌, inverse}
use Rattle.algebra.proofs.Lines.{lines_reached}
use Rattle.algebra.proofs.Partners.{ordered_permuted, ordered_same}

pub numbers_equality : Equality same_numbers
numbers_equality = record {
  sound = λ p q e.
      let first = and_parts (eqb p.first q.first) _ e in
      let second = and_parts (eqb p.second q.second) _ first.1 in
      let third = and_parts (eqb p.third q.third) _ second.1 in
      λ i. record {
        first = eqb-true p.first q.first first.0 i;
        second = eqb-true p.second q.second second.0 i;
        third = eqb-true p.third q.third third.0 i;
        fourth = eqb-true p.fourth q.fourth third.1 i;
      };
  self = λ p. simp (eq-eqb p.first p.first refl, eq-eqb p.second p.second refl, eq-eqb p.third p.third refl, eq-eqb p.fourth p.fourth refl);
}

pub placed_equality : Equality same_placed
placed_equality = record {
  sound = λ x y e.
      let both = and_parts (eqb x.onset y.onset) _ e in
      λ i. record { onset = eqb-true x.onset y.onset both.0 i; what = numbers_equality.sound x.what y.what both.1 i };
  self = λ x. and_from (eqb x.onset x.onset) _ (eq-eqb x.onset x.onset refl) (numbers_equality.self x.what);
}

pub line_equality : Equality same_line
line_equality = record {
  sound = λ l m e.
      let both = and_parts (same_placed l.body m.body) _ e in
      λ i. record { body = placed_equality.sound l.body m.body both.0 i; after = eqb-true l.after m.after both.1 i };
  self = λ l. and_from (same_placed l.body l.body) _ (placed_equality.self l.body) (eq-eqb l.after l.after refl);
}

lines_permuted : (K : KindModel) (s t : Score) → score_length K s ≡ score_length K t → Permutation (placed K s) (placed K t) → Permutation (lines K s) (lines K t)
lines_permuted K s t e p = rw e (permuted_map (line K (score_length K t)) p)

-- a permutation is an equal bag
pub same_bag : {xs ys : List Placed} → Permutation xs ys → SameBag xs ys
same_bag p x = permuted_count placed_equality x p

pub bag_permuted : (xs ys : List Placed) → SameBag xs ys → Permutation xs ys
bag_permuted xs ys e = permuted_from_counts placed_equality xs ys e

complete : (K : KindModel) (s t : Score) → SameMeaning K s t → Chain K s t
complete K s t m =
    let p = bag_permuted (placed K s) (placed K t) m.1 in
    let there = lines_reached K s (lines K t) (lines_permuted K s t m.0 p) in
    (rw m.0 at there) ⟫ inverse (lines_reached K t (lines K t) (permuted-refl (lines K t)))

pub sound_and_complete : SoundAndComplete
sound_and_complete K s t = ((λ c. let k = chain_kept c in (k.length, same_bag k.bag)), complete K s t)

pub normal_reached : NormalReached
normal_reached K s = lines_reached K s (lines K s) (permuted-refl (lines K s))

pub after_reached : AfterReached
after_reached K s model = lines_reached K s (ordered_after same_line (lines K s) (lines K model)) (ordered_permuted line_equality (lines K s) (lines K model))

pub self_after : SelfAfter
self_after K s = ap (together (score_length K s)) (ordered_same line_equality (lines K s) (lines K s) (λ l. refl))

-- a score that means what the model means has the model's normal form after it
after_model : (K : KindModel) (s model : Score) → Kept K s model → normal_after K s model ≡ normal K model
after_model K s model k =
    ap₂ together k.length
    (ordered_same line_equality (lines K s) (lines K model) (λ l. permuted_count line_equality l (lines_permuted K s model k.length k.bag)))

pub after_decides : AfterDecides
after_decides K s model = (
  (λ e. (rw e at (after_reached K s model)) ⟫ inverse (normal_reached K model)),
  λ c. after_model K s model (chain_kept c),
)

pub both_after_decide : BothAfterDecide
both_after_decide K s model = rw (self_after K model) (after_decides K s model)
