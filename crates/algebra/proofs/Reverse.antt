-- Reversal follows its bag rule.
use Rattle.std.proofs.Common.{◌≡◌, ℕ, ◌+◌, ◌-◌, max, ltb, List, ◌++◌, map, sym, refl, ap, ◌∙◌, subst, arith}
use mathlib.Core.List.Permᴰ.{trans as permuted-trans}
use mathlib.Core.List.{Permᴰ as Permutation}
use Rattle.std.specs.List.{AllByRecursion}
use Rattle.std.proofs.ByRecursion.{All-weaker}
use Rattle.std.proofs.lemmas.Bool.{cond_both, ltb-true, ltb-false}
use Rattle.algebra.specs.Kind.{KindModel, ReverseLaws}
use Rattle.algebra.specs.Score.{Legal, Score, Score.rest, Score.primitive, Score.sequence, Score.parallel, score_length, Placed, placed, later}
use Rattle.algebra.specs.Cuts.{preceded, reversed, reversed_one, reversed_bag}
use Rattle.algebra.proofs.Bags.{permuted_equal, permuted_append, permuted_append_exchanged, permuted_map, map_append, map_same, map_map}
use Rattle.algebra.proofs.Lines.{Ends, ends_placed}
use Rattle.algebra.proofs.Sounds.{always, alone}

module _ (K : KindModel) (reverses : ReverseLaws K) where
  -- what u has to be, to be a reverse of length n of placed primitives
  pub record Reversed (n : ℕ) (xs : List Placed) (u : Score) : Type 0 where
    pub legal : Legal K u
    pub length : score_length K u ≡ n
    pub bag : Permutation (placed K u) (reversed_bag K n xs)

  reversed_longer : (n d : ℕ) (xs : List Placed) → AllByRecursion (Ends K n) xs → map (later d) (reversed_bag K n xs) ≡ reversed_bag K (d + n) xs
  reversed_longer n d xs w =
      map_map (later d) (reversed_one K n) xs
      ∙ map_same _ (reversed_one K (d + n)) xs
      (All-weaker (Ends K n) (λ x. later d (reversed_one K n x) ≡ reversed_one K (d + n) x)
      (λ x e. ap (λ (o : ℕ). let y : Placed = record { onset = o; what = K.reverse_of x.what } in y) (omega arith)) xs w)

  reversed_later : (n k : ℕ) (xs : List Placed) → reversed_bag K (k + n) (map (later k) xs) ≡ reversed_bag K n xs
  reversed_later n k xs =
      map_map (reversed_one K (k + n)) (later k) xs
      ∙ map_same _ (reversed_one K n) xs
      (always (λ x. reversed_one K (k + n) (later k x) ≡ reversed_one K n x)
      (λ x. ap (λ (o : ℕ). let y : Placed = record { onset = o; what = K.reverse_of x.what } in y) (omega arith)) xs)

  preceded_made : (n l : ℕ) (xs : List Placed) (u : Score) → AllByRecursion (Ends K l) xs → Reversed l xs u → Reversed (max l n) xs (preceded n l u)
  preceded_made n l xs u w r =
      cond_both (ltb l n) (sequence (rest (n - l)) u) u (Reversed (max l n) xs)
      (λ e. let shorter = ltb-true l n e in
      let whole : n - l + l ≡ max l n = omega arith in
      record {
        legal = (tt, r.legal);
        length = omega (arith, r.length);
        bag = permuted-trans (permuted_map (later (n - l)) r.bag) (permuted_equal (reversed_longer l (n - l) xs w ∙ ap (λ m. reversed_bag K m xs) whole));
      })
      (λ e. let longer = ltb-false l n e in
      let whole : l ≡ max l n = omega arith in
      subst (λ m. Reversed m xs u) whole r)

  pub reversed_made : (s : Score) → Legal K s → Reversed (score_length K s) (placed K s) (reversed K s)
  reversed_made (rest d) l = record { legal = tt; length = refl; bag = permuted_equal refl }
  reversed_made (primitive p) l = record {
    legal = reverses.reverse_legal p l;
    length = reverses.reverse_length p l;
    bag = permuted_equal (ap (λ o. alone o (K.reverse_of p)) (omega arith));
  }
  reversed_made (sequence a b) l =
      let m = score_length K a in
      let n = score_length K b in
      let first = reversed_made a l.0 in
      let second = reversed_made b l.1 in
      let of-a = reversed_bag K (m + n) (placed K a) in
      let of-b = reversed_bag K n (placed K b) in
      let whole : n + m ≡ m + n = omega arith in
      let later-a : map (later n) (reversed_bag K m (placed K a)) ≡ of-a = reversed_longer m n (placed K a) (ends_placed K a) ∙ ap (λ k. reversed_bag K k (placed K a)) whole in
      let moved : Permutation (map (later (score_length K (reversed K b))) (placed K (reversed K a))) of-a = permuted-trans (permuted_map (later (score_length K (reversed K b))) first.bag) (permuted_equal (ap (λ k. map (later k) (reversed_bag K m (placed K a))) second.length ∙ later-a)) in
      let both : reversed_bag K (m + n) (placed K (sequence a b)) ≡ of-a ++ of-b = map_append (reversed_one K (m + n)) (placed K a) (map (later m) (placed K b)) ∙ ap (λ ys. of-a ++ ys) (reversed_later n m (placed K b)) in
      record {
        legal = (second.legal, first.legal);
        length = omega (arith, first.length, second.length);
        bag = permuted-trans (permuted_append second.bag moved) (permuted-trans (permuted_append_exchanged of-b of-a) (permuted_equal (sym both)));
      }
  reversed_made (parallel a b) l =
      let m = score_length K a in
      let k = score_length K b in
      let n = max m k in
      let swap : max k m ≡ n = omega arith in
      let first = preceded_made k m (placed K a) (reversed K a) (ends_placed K a) (reversed_made a l.0) in
      let second : Reversed n (placed K b) (preceded m k (reversed K b)) = rw (← swap) (preceded_made m k (placed K b) (reversed K b) (ends_placed K b) (reversed_made b l.1)) in
      record {
        legal = (first.legal, second.legal);
        length = omega (arith, first.length, second.length);
        bag = permuted-trans (permuted_append first.bag second.bag) (permuted_equal (sym (map_append (reversed_one K n) (placed K a) (placed K b))));
      }
