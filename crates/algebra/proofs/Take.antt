-- Take follows its bag rule.
use Rattle.std.proofs.Common.{◌≡◌, ℕ, ◌+◌, ◌-◌, ◌≤◌, min, cond, eqb, leb, List, [], ◌∷◌, ◌++◌, map, sym, refl, ap, ◌∙◌, ap₂, inl, inr, append-nil, arith}
use Rattle.std.proofs.lemmas.Bool.{cond_both, leb-true, leb-false, lt-ltb, le-ltb, eqb-true, eqb-false, cases_lt}
use Rattle.algebra.specs.Kind.{KindModel, LengthLaws, CutLaws}
use Rattle.algebra.specs.Score.{Legal, Score, Score.rest, Score.primitive, Score.sequence, Score.parallel, score_length, Placed, placed, later}
use Rattle.algebra.specs.Cuts.{taken, taken_one, taken_bag}
use Rattle.algebra.proofs.Bags.{map_id, flat_map_append, flat_map_map, flat_map_same, flat_map_one, flat_map_none, map_flat_map}
use Rattle.algebra.proofs.Sounds.{Sounds, at_each, always, alone}

module _ (K : KindModel) (lengths : LengthLaws K) (cuts : CutLaws K) where
  taken_one_whole : (n t : ℕ) (x : Placed) → n ≤ t → Sounds K n x → taken_one K t x ≡ x ∷ []
  taken_one_whole n t x h (l, e) =
      let p = x.what in
      let least = lengths.length_least p l in
      let all : min (K.length_of p) (t - x.onset) ≡ K.length_of p = omega arith in
      rw (lt-ltb x.onset t (omega arith)) (ap (alone x.onset) (ap (λ k. K.head_of k p) all ∙ cuts.head_whole p l))

  taken_one_none : (t : ℕ) (x : Placed) → t ≤ x.onset → taken_one K t x ≡ []
  taken_one_none t x h = rw (le-ltb x.onset t h)

  taken_one_later : (t k : ℕ) (x : Placed) → taken_one K t (later k x) ≡ map (later k) (taken_one K (t - k) x)
  taken_one_later t k x =
      let left : t - (k + x.onset) ≡ t - k - x.onset = omega arith in
      elim (cases_lt (k + x.onset) t) [
        | inl h ↦ rw (lt-ltb (k + x.onset) t h, lt-ltb x.onset (t - k) (omega arith), left)
        | inr h ↦ rw (le-ltb (k + x.onset) t h, le-ltb x.onset (t - k) (omega arith))
      ]

  -- what u has to be, to be take t of s
  pub record Taken (t : ℕ) (s u : Score) : Type 0 where
    pub legal : Legal K u
    pub length : score_length K u ≡ min (score_length K s) t
    pub bag : placed K u ≡ taken_bag K t (placed K s)

  bag_short : (t : ℕ) (s : Score) → Legal K s → score_length K s ≤ t → taken_bag K t (placed K s) ≡ placed K s
  bag_short t s l h =
      flat_map_one (taken_one K t) (λ x. x) (placed K s) (at_each K s l (λ x. taken_one K t x ≡ x ∷ []) (λ x d. taken_one_whole (score_length K s) t x h d))
      ∙ map_id (placed K s)

  taken_short : (t : ℕ) (s : Score) → Legal K s → score_length K s ≤ t → Taken t s s
  taken_short t s l h = record { legal = l; length = omega arith; bag = sym (bag_short t s l h) }

  taken_later : (t k : ℕ) (xs : List Placed) → taken_bag K t (map (later k) xs) ≡ map (later k) (taken_bag K (t - k) xs)
  taken_later t k xs =
      flat_map_map (taken_one K t) (later k) xs
      ∙ flat_map_same _ (λ x. map (later k) (taken_one K (t - k) x)) xs (always _ (taken_one_later t k) xs)
      ∙ sym (map_flat_map (later k) (taken_one K (t - k)) xs)

  taken_none : (t k : ℕ) (xs : List Placed) → t ≤ k → taken_bag K t (map (later k) xs) ≡ []
  taken_none t k xs h =
      flat_map_map (taken_one K t) (later k) xs
      ∙ flat_map_none _ xs (always _ (λ x. taken_one_none t (later k x) (omega arith)) xs)

  pub taken_made : (t : ℕ) (s : Score) → Legal K s → Taken t s (taken K t s)
  taken_made t (rest d) l =
      cond_both (leb d t) (rest d) (rest t) (Taken t (rest d))
      (λ e. taken_short t (rest d) tt (leb-true d t e))
      (λ e. record { legal = tt; length = omega (arith, leb-false d t e); bag = refl })
  taken_made t (primitive p) l =
      let n = K.length_of p in
      cond_both (leb n t) (primitive p) (cond (eqb t 0) (rest 0) (primitive (K.head_of t p))) (Taken t (primitive p))
      (λ e. taken_short t (primitive p) l (leb-true n t e))
      (λ e. let longer = leb-false n t e in cond_both (eqb t 0) (rest 0) (primitive (K.head_of t p)) (Taken t (primitive p))
      (λ z. let none = eqb-true t 0 z in record { legal = tt; length = omega arith; bag = sym (rw none) })
      (λ z.
      let some : 1 ≤ t = omega (arith, eqb-false t 0 z) in
      let all : min n (t - 0) ≡ t = omega arith in
      record {
        legal = cuts.head_legal t p l some (omega arith);
        length = cuts.head_length t p l some (omega arith) ∙ omega arith;
        bag = sym (rw (lt-ltb 0 t some) (ap (λ k. alone 0 (K.head_of k p)) all));
      }))
  taken_made t (sequence a b) l =
      let length-a = score_length K a in
      let whole = taken_bag K t (placed K (sequence a b)) in
      let parts : whole ≡ taken_bag K t (placed K a) ++ taken_bag K t (map (later length-a) (placed K b)) = flat_map_append (taken_one K t) (placed K a) (map (later length-a) (placed K b)) in
      let first = taken_made t a l.0 in
      let second = taken_made (t - length-a) b l.1 in
      cond_both (leb (score_length K (sequence a b)) t) (sequence a b) (cond (leb t length-a) (taken K t a) (sequence a (taken K (t - length-a) b))) (Taken t (sequence a b))
      (λ e. taken_short t (sequence a b) l (leb-true (score_length K (sequence a b)) t e))
      (λ e. let longer = leb-false (score_length K (sequence a b)) t e in cond_both (leb t length-a) (taken K t a) (sequence a (taken K (t - length-a) b)) (Taken t (sequence a b))
      (λ h. let early = leb-true t length-a h in record {
        legal = first.legal;
        length = omega (arith, first.length);
        bag = first.bag ∙ sym (parts ∙ ap (λ ys. taken_bag K t (placed K a) ++ ys) (taken_none t length-a (placed K b) early) ∙ append-nil (taken_bag K t (placed K a)));
      })
      (λ h. let late = leb-false t length-a h in record {
        legal = (l.0, second.legal);
        length = omega (arith, second.length);
        bag =
            ap (λ ys. placed K a ++ map (later length-a) ys) second.bag
            ∙ sym (parts ∙ ap₂ (λ xs ys. xs ++ ys) (bag_short t a l.0 (omega arith)) (taken_later t length-a (placed K b)));
      }))
  taken_made t (parallel a b) l =
      let first = taken_made t a l.0 in
      let second = taken_made t b l.1 in
      cond_both (leb (score_length K (parallel a b)) t) (parallel a b) (parallel (taken K t a) (taken K t b)) (Taken t (parallel a b))
      (λ e. taken_short t (parallel a b) l (leb-true (score_length K (parallel a b)) t e))
      (λ e. record {
        legal = (first.legal, second.legal);
        length = omega (arith, first.length, second.length);
        bag = ap₂ (λ xs ys. xs ++ ys) first.bag second.bag ∙ sym (flat_map_append (taken_one K t) (placed K a) (placed K b));
      })
