-- The order of all numbers is total.
use Rattle.std.proofs.Common.{◌≡◌, Bool, true, false, cond, Ordering, Less, Equal, Greater, refl, ap, ◌∙◌, ap₂}
use Rattle.std.proofs.lemmas.Bool.{true≢false}
use Rattle.std.specs.Cmp.{IsTotalOrder}
use Rattle.std.specs.Ordering.{is_lt, is_eq, is_gt, ordering_reverse}
use Rattle.algebra.specs.declared.numbers.Numbers.{Numbers}
use Rattle.algebra.specs.Kind.{KindModel, OrderLaws, opposite, smaller_first}
use Rattle.algebra.proofs.Orders.{first_equal, first_opposite, first_before}
use Rattle.comparing.specs.Order.{any_numbers, any_order}

pub turned : (o : Ordering) → opposite o ≡ ordering_reverse o
turned Less = refl
turned Equal = refl
turned Greater = refl

module _ (K : KindModel) (order : OrderLaws K) where
  pub flips : (p q : Numbers) → any_numbers K q p ≡ opposite (any_numbers K p q)
  flips p q = go (K.legal p) refl (K.legal q) refl
    where
      go : (a : Bool) → K.legal p ≡ a → (b : Bool) → K.legal q ≡ b → cond b (cond a (K.compare_of q p) Less) (cond a Greater Equal) ≡ opposite (cond a (cond b (K.compare_of p q) Less) (cond b Greater Equal))
      go true l true m = order.compare_opposite p q l m
      go true l false m = refl
      go false l true m = refl
      go false l false m = refl

  pub chains : (p q r : Numbers) → any_numbers K p q ≡ Less → any_numbers K q r ≡ Less → any_numbers K p r ≡ Less
  chains p q r = go (K.legal p) refl (K.legal q) refl (K.legal r) refl
    where
      go : (a : Bool) → K.legal p ≡ a → (b : Bool) → K.legal q ≡ b → (c : Bool) → K.legal r ≡ c
          → cond a (cond b (K.compare_of p q) Less) (cond b Greater Equal) ≡ Less → cond b (cond c (K.compare_of q r) Less) (cond c Greater Equal) ≡ Less
          → cond a (cond c (K.compare_of p r) Less) (cond c Greater Equal) ≡ Less
      go true l true m true n d e = order.compare_before p q r l m n d e
      go true l true m false n d e = refl
      go true l false m true n d e = absurd (true≢false (ap is_gt e))
      go true l false m false n d e = refl
      go false l true m c n d e = absurd (true≢false (ap is_gt d))
      go false l false m c n d e = absurd (true≢false (ap is_eq d))

  pub ties : (p q r : Numbers) → any_numbers K p q ≡ Equal → any_numbers K p r ≡ any_numbers K q r
  ties p q r = go (K.legal p) refl (K.legal q) refl
    where
      go : (a : Bool) → K.legal p ≡ a → (b : Bool) → K.legal q ≡ b → cond a (cond b (K.compare_of p q) Less) (cond b Greater Equal) ≡ Equal
          → cond a (cond (K.legal r) (K.compare_of p r) Less) (cond (K.legal r) Greater Equal) ≡ cond b (cond (K.legal r) (K.compare_of q r) Less) (cond (K.legal r) Greater Equal)
      go true l true m e = ap (λ w. cond (K.legal r) (K.compare_of w r) Less) (order.compare_same p q l m e)
      go true l false m e = absurd (true≢false (ap is_lt e))
      go false l true m e = absurd (true≢false (ap is_gt e))
      go false l false m e = refl

  pub any_total : IsTotalOrder (any_order K)
  any_total = record {
    antisymm = λ x y. first_opposite y.onset x.onset (any_numbers K y.numbers x.numbers) _ (flips y.numbers x.numbers) ∙ turned (any_order K y x);
    trans = λ x y z. first_before x.onset y.onset _ z.onset _ _ (chains x.numbers y.numbers z.numbers);
    congr = λ x y z e.
        let both = first_equal x.onset y.onset _ e in
        ap₂ (λ n o. smaller_first n z.onset o) both.0 (ties x.numbers y.numbers z.numbers both.1);
  }
