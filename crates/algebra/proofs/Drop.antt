-- Drop follows its bag rule.
use Rattle.std.proofs.Common.{◌≡◌, ℕ, ◌+◌, ◌-◌, ◌<◌, ◌≤◌, true, cond, eqb, leb, List, [], ◌∷◌, ◌++◌, map, sym, refl, ap, ◌∙◌, ap₂, inl, inr, arith}
use Rattle.std.proofs.lemmas.Bool.{cond_both, leb-true, leb-false, lt-ltb, le-ltb, eqb-true, cases_lt}
use Rattle.algebra.specs.Kind.{KindModel, LengthLaws, CutLaws}
use Rattle.algebra.specs.Score.{Legal, Score, Score.rest, Score.primitive, Score.sequence, Score.parallel, score_length, Placed, placed, later}
use Rattle.algebra.specs.Cuts.{dropped, dropped_one, dropped_bag}
use Rattle.algebra.proofs.Bags.{map_id, flat_map_append, flat_map_map, flat_map_same, flat_map_one, flat_map_none}
use Rattle.algebra.proofs.Lines.{Ends}
use Rattle.algebra.proofs.Sounds.{at_each, always, alone}

module _ (K : KindModel) (lengths : LengthLaws K) (cuts : CutLaws K) where
  dropped_one_whole : (x : Placed) → K.legal x.what ≡ true → dropped_one K 0 x ≡ x ∷ []
  dropped_one_whole x l =
      let p = x.what in
      let none : 0 - x.onset ≡ 0 = omega arith in
      rw (lt-ltb 0 (x.onset + K.length_of p) (omega (arith, lengths.length_least p l)))
      (ap₂ alone (omega arith) (ap (λ k. K.tail_of k p) none ∙ cuts.tail_whole p l))

  dropped_one_none : (t : ℕ) (x : Placed) → Ends K t x → dropped_one K t x ≡ []
  dropped_one_none t x h = rw (le-ltb t (x.onset + K.length_of x.what) h)

  dropped_one_past : (t k : ℕ) (x : Placed) → k ≤ t → dropped_one K t (later k x) ≡ dropped_one K (t - k) x
  dropped_one_past t k x h =
      let end = x.onset + K.length_of x.what in
      let left : t - (k + x.onset) ≡ t - k - x.onset = omega arith in
      let onset : k + x.onset - t ≡ x.onset - (t - k) = omega arith in
      elim (cases_lt (t - k) end) [
        | inl e ↦ rw (lt-ltb t (k + x.onset + K.length_of x.what) (omega arith), lt-ltb (t - k) end e, left, onset)
        | inr e ↦ rw (le-ltb t (k + x.onset + K.length_of x.what) (omega arith), le-ltb (t - k) end e)
      ]

  dropped_one_before : (t k : ℕ) (x : Placed) → t < k → K.legal x.what ≡ true → dropped_one K t (later k x) ≡ later (k - t) x ∷ []
  dropped_one_before t k x h l =
      let p = x.what in
      let none : t - (k + x.onset) ≡ 0 = omega arith in
      rw (lt-ltb t (k + x.onset + K.length_of p) (omega arith))
      (ap₂ alone (omega arith) (ap (λ j. K.tail_of j p) none ∙ cuts.tail_whole p l))

  -- what u has to be, to be drop t of s
  pub record Dropped (t : ℕ) (s u : Score) : Type 0 where
    pub legal : Legal K u
    pub length : score_length K u ≡ score_length K s - t
    pub bag : placed K u ≡ dropped_bag K t (placed K s)

  dropped_whole : (t : ℕ) (s : Score) → Legal K s → t ≡ 0 → Dropped t s s
  dropped_whole t s l e = record {
    legal = l;
    length = omega arith;
    bag = rw e (sym (
        flat_map_one (dropped_one K 0) (λ x. x) (placed K s) (at_each K s l (λ x. dropped_one K 0 x ≡ x ∷ []) (λ x d. dropped_one_whole x d.0))
        ∙ map_id (placed K s)));
  }

  dropped_none : (t : ℕ) (s : Score) → Legal K s → score_length K s ≤ t → dropped_bag K t (placed K s) ≡ []
  dropped_none t s l h = flat_map_none (dropped_one K t) (placed K s) (at_each K s l (λ x. dropped_one K t x ≡ []) (λ x d. dropped_one_none t x (omega (arith, d.1))))

  dropped_past : (t k : ℕ) (xs : List Placed) → k ≤ t → dropped_bag K t (map (later k) xs) ≡ dropped_bag K (t - k) xs
  dropped_past t k xs h =
      flat_map_map (dropped_one K t) (later k) xs
      ∙ flat_map_same _ (dropped_one K (t - k)) xs (always _ (λ x. dropped_one_past t k x h) xs)

  dropped_before : (t k : ℕ) (s : Score) → Legal K s → t < k → dropped_bag K t (map (later k) (placed K s)) ≡ map (later (k - t)) (placed K s)
  dropped_before t k s l h =
      flat_map_map (dropped_one K t) (later k) (placed K s)
      ∙ flat_map_one _ (later (k - t)) (placed K s) (at_each K s l (λ x. dropped_one K t (later k x) ≡ later (k - t) x ∷ []) (λ x d. dropped_one_before t k x h d.0))

  pub dropped_made : (t : ℕ) (s : Score) → Legal K s → Dropped t s (dropped K t s)
  dropped_made t (rest d) l =
      cond_both (eqb t 0) (rest d) (rest (d - t)) (Dropped t (rest d))
      (λ z. dropped_whole t (rest d) tt (eqb-true t 0 z))
      (λ z. record { legal = tt; length = refl; bag = refl })
  dropped_made t (primitive p) l =
      let n = K.length_of p in
      cond_both (eqb t 0) (primitive p) (cond (leb n t) (rest 0) (primitive (K.tail_of t p))) (Dropped t (primitive p))
      (λ z. dropped_whole t (primitive p) l (eqb-true t 0 z))
      (λ z. cond_both (leb n t) (rest 0) (primitive (K.tail_of t p)) (Dropped t (primitive p))
      (λ e. let over = leb-true n t e in record { legal = tt; length = omega arith; bag = sym (dropped_none t (primitive p) l over) })
      (λ e. let within = leb-false n t e in record {
        legal = cuts.tail_legal t p l within;
        length = cuts.tail_length t p l within;
        bag = sym (rw (lt-ltb t (0 + n) (omega arith)) (ap₂ alone (omega arith) (ap (λ k. K.tail_of k p) (omega arith))));
      }))
  dropped_made t (sequence a b) l =
      let length-a = score_length K a in
      let parts = flat_map_append (dropped_one K t) (placed K a) (map (later length-a) (placed K b)) in
      let first = dropped_made t a l.0 in
      let second = dropped_made (t - length-a) b l.1 in
      cond_both (eqb t 0) (sequence a b) (cond (leb length-a t) (dropped K (t - length-a) b) (sequence (dropped K t a) b)) (Dropped t (sequence a b))
      (λ z. dropped_whole t (sequence a b) l (eqb-true t 0 z))
      (λ z. cond_both (leb length-a t) (dropped K (t - length-a) b) (sequence (dropped K t a) b) (Dropped t (sequence a b))
      (λ h. let past = leb-true length-a t h in record {
        legal = second.legal;
        length = omega (arith, second.length);
        bag = second.bag ∙ sym (parts ∙ ap₂ (λ xs ys. xs ++ ys) (dropped_none t a l.0 past) (dropped_past t length-a (placed K b) past));
      })
      (λ h. let within = leb-false length-a t h in record {
        legal = (first.legal, l.1);
        length = omega (arith, first.length);
        bag =
            ap₂ (λ xs k. xs ++ map (later k) (placed K b)) first.bag first.length
            ∙ sym (parts ∙ ap (λ ys. dropped_bag K t (placed K a) ++ ys) (dropped_before t length-a b l.1 within));
      }))
  dropped_made t (parallel a b) l =
      let first = dropped_made t a l.0 in
      let second = dropped_made t b l.1 in
      cond_both (eqb t 0) (parallel a b) (parallel (dropped K t a) (dropped K t b)) (Dropped t (parallel a b))
      (λ z. dropped_whole t (parallel a b) l (eqb-true t 0 z))
      (λ z. record {
        legal = (first.legal, second.legal);
        length = omega (arith, first.length, second.length);
        bag = ap₂ (λ xs ys. xs ++ ys) first.bag second.bag ∙ sym (flat_map_append (dropped_one K t) (placed K a) (placed K b));
      })
