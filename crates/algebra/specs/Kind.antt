-- Kinds of primitive: what a kind answers of a primitive's four numbers, and the laws that it keeps.
use Rattle.std.specs.Prelude.{◌≡◌, ℕ, ◌+◌, ◌-◌, ◌<◌, ◌≤◌, Bool, true, cond, List, length, nat_lt}
use Rattle.std.specs.declared.cmp.Ordering.TheVariants.{Less, Equal, Greater}
use Rattle.std.specs.declared.cmp.Ordering.{Ordering}
use Rattle.std.specs.List.{AllByRecursion}
use Rattle.algebra.specs.declared.numbers.Numbers.{Numbers}

abbrev pub four : ℕ → ℕ → ℕ → ℕ → Numbers
four a b c d = record { first = a; second = b; third = c; fourth = d }

-- A kind by its answers. The numbers alone fix them.
pub record KindModel : Type 0 where
  pub name : List ℕ
  -- the numbers that a primitive of the kind may have
  pub legal : Numbers → Bool
  pub length_of : Numbers → ℕ
  -- before, same or after
  pub compare_of : Numbers → Numbers → Ordering
  pub reverse_of : Numbers → Numbers
  -- the first k ticks, for k from 1 to the length
  pub head_of : ℕ → Numbers → Numbers
  -- what follows the first k ticks, for k below the length
  pub tail_of : ℕ → Numbers → Numbers

-- A lower-case letter, by its byte.
abbrev pub Letter : ℕ → Type 0
Letter b = (97 ≤ b) × (b ≤ 122)

-- A name: 1 to 8 lower-case letters.
pub record Name (w : List ℕ) : Type 0 where
  pub some : 0 < length w
  pub short : length w ≤ 8
  pub letters : AllByRecursion Letter w

-- Four numbers of 32 bits.
pub record Words (p : Numbers) : Type 0 where
  pub first : p.first ≤ 4294967295
  pub second : p.second ≤ 4294967295
  pub third : p.third ≤ 4294967295
  pub fourth : p.fourth ≤ 4294967295

abbrev pub opposite : Ordering → Ordering
opposite Less = Greater
opposite Equal = Equal
opposite Greater = Less

-- By the smaller of two numbers first, and where they are equal by what follows.
abbrev pub smaller_first : ℕ → ℕ → Ordering → Ordering
smaller_first a b o = cond (nat_lt a b) Less (cond (nat_lt b a) Greater o)

module _ (K : KindModel) where
  abbrev pub LegalNumbers : Numbers → Type 0
  LegalNumbers p = K.legal p ≡ true

  -- Same is said exactly for the same primitive, exchanged arguments give the opposite, and before is transitive.
  pub record OrderLaws : Type 0 where
    pub compare_self : (p : Numbers) → LegalNumbers p → K.compare_of p p ≡ Equal
    pub compare_same : (p q : Numbers) → LegalNumbers p → LegalNumbers q → K.compare_of p q ≡ Equal → p ≡ q
    pub compare_opposite : (p q : Numbers) → LegalNumbers p → LegalNumbers q → K.compare_of q p ≡ opposite (K.compare_of p q)
    pub compare_before : (p q r : Numbers) → LegalNumbers p → LegalNumbers q → LegalNumbers r → K.compare_of p q ≡ Less → K.compare_of q r ≡ Less → K.compare_of p r ≡ Less

  -- A length is from 1 to 65,535.
  pub record LengthLaws : Type 0 where
    pub length_least : (p : Numbers) → LegalNumbers p → 1 ≤ K.length_of p
    pub length_most : (p : Numbers) → LegalNumbers p → K.length_of p ≤ 65535

  -- Reversing keeps the length, and reversing twice gives the first primitive.
  pub record ReverseLaws : Type 0 where
    pub reverse_legal : (p : Numbers) → LegalNumbers p → LegalNumbers (K.reverse_of p)
    pub reverse_length : (p : Numbers) → LegalNumbers p → K.length_of (K.reverse_of p) ≡ K.length_of p
    pub reverse_twice : (p : Numbers) → LegalNumbers p → K.reverse_of (K.reverse_of p) ≡ p

  -- Heads and tails have the lengths asked for, are the whole primitive at its ends, and agree with one another.
  pub record CutLaws : Type 0 where
    pub head_legal : (k : ℕ) (p : Numbers) → LegalNumbers p → 1 ≤ k → k ≤ K.length_of p → LegalNumbers (K.head_of k p)
    pub head_length : (k : ℕ) (p : Numbers) → LegalNumbers p → 1 ≤ k → k ≤ K.length_of p → K.length_of (K.head_of k p) ≡ k
    pub head_whole : (p : Numbers) → LegalNumbers p → K.head_of (K.length_of p) p ≡ p
    pub tail_legal : (k : ℕ) (p : Numbers) → LegalNumbers p → k < K.length_of p → LegalNumbers (K.tail_of k p)
    pub tail_length : (k : ℕ) (p : Numbers) → LegalNumbers p → k < K.length_of p → K.length_of (K.tail_of k p) ≡ K.length_of p - k
    pub tail_whole : (p : Numbers) → LegalNumbers p → K.tail_of 0 p ≡ p
    pub reverse_head : (k : ℕ) (p : Numbers) → LegalNumbers p → 1 ≤ k → k ≤ K.length_of p → K.reverse_of (K.head_of k p) ≡ K.tail_of (K.length_of p - k) (K.reverse_of p)
    pub head_head : (j k : ℕ) (p : Numbers) → LegalNumbers p → 1 ≤ j → j ≤ k → k ≤ K.length_of p → K.head_of j (K.head_of k p) ≡ K.head_of j p
    pub tail_tail : (j k : ℕ) (p : Numbers) → LegalNumbers p → j + k < K.length_of p → K.tail_of j (K.tail_of k p) ≡ K.tail_of (j + k) p
    pub tail_head : (j k : ℕ) (p : Numbers) → LegalNumbers p → j < k → k ≤ K.length_of p → K.tail_of j (K.head_of k p) ≡ K.head_of (k - j) (K.tail_of j p)

  -- What every kind keeps.
  pub record KindLaws : Type 0 where
    pub named : Name K.name
    pub words : (p : Numbers) → LegalNumbers p → Words p
    pub order : OrderLaws
    pub lengths : LengthLaws
    pub reverses : ReverseLaws
    pub cuts : CutLaws
