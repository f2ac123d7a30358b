-- Every score has a chain to its normal form, and to its lines in any other order.
use Rattle.std.proofs.Common.{◌≡◌, ℕ, ◌+◌, ◌-◌, ◌≤◌, List, [], ◌∷◌, ◌++◌, map, sym, refl, subst, arith}
use mathlib.Core.List.Permᴰ.{cons as permuted-cons}
use mathlib.Core.List.Permᴰ.{nil as permuted-nil}
use mathlib.Core.List.Permᴰ.{swap as permuted-swap}
use mathlib.Core.List.Permᴰ.{trans as permuted-trans}
use mathlib.Core.List.{Permᴰ as Permutation}
use Rattle.std.specs.List.{AllByRecursion}
use Rattle.std.proofs.ByRecursion.{All-append, All-weaker, All-map}
use Rattle.algebra.specs.Kind.{KindModel}
use Rattle.algebra.specs.Score.{Score, Score.rest, Score.primitive, Score.sequence, Score.parallel, score_length, Placed, placed, later}
use Rattle.algebra.specs.Rules.{
  Sides.sequence_associative,
  Sides.parallel_associative,
  Sides.parallel_commutative,
  Sides.sequence_unit_left,
  Sides.sequence_unit_right,
  Sides.rest_split,
  Sides.rest_beside,
  Chain,
  Chain.done,
}
use Rattle.algebra.specs.Normal.{Line, line, line_score, lines, from_line, together}
use Rattle.algebra.proofs.Chains.{◌⟫◌, by, inverse, in_sequence_lem, in_parallel_lem, beside_rest, sequence_apart, parallel_apart, rest_before, rest_after}
use Rattle.algebra.proofs.Bags.{map_append}

-- Lines put together with a rest at the end, (l1|(l2|(…|rn))).
abbrev pub spread : ℕ → List Line → Score
spread n [] = rest n
spread n (l ∷ ls) = parallel (line_score l) (spread n ls)

-- Each line has length n.
abbrev Full : KindModel → ℕ → List Line → Type 0
Full K n ls = AllByRecursion (λ l. score_length K (line_score l) ≡ n) ls

-- A placed primitive ends by n.
abbrev pub Ends : KindModel → ℕ → Placed → Type 0
Ends K n x = x.onset + K.length_of x.what ≤ n

module _ (K : KindModel) (n : ℕ) where
  full_lines : (xs : List Placed) → AllByRecursion (Ends K n) xs → Full K n (map (line K n) xs)
  full_lines xs w = All-map _ (line K n) xs (All-weaker (Ends K n) (λ x. score_length K (line_score (line K n x)) ≡ n) (λ x h. omega arith) xs w)

  full_permuted : {ls ms : List Line} → Permutation ls ms → Full K n ls → Full K n ms
  full_permuted permuted-nil f = f
  full_permuted (permuted-cons e p) f = (subst (λ l. score_length K (line_score l) ≡ n) e f.0, full_permuted p f.1)
  full_permuted (permuted-swap e d) f = (subst (λ l. score_length K (line_score l) ≡ n) d f.1.0, (subst (λ l. score_length K (line_score l) ≡ n) e f.0, f.1.1))
  full_permuted (permuted-trans p q) f = full_permuted q (full_permuted p f)

  length_spread : (ls : List Line) → Full K n ls → score_length K (spread n ls) ≡ n
  length_spread [] f = refl
  length_spread (l ∷ ls) f = omega (arith, f.0, length_spread ls f.1)

  spread_append : (ls ms : List Line) → Full K n ms → Chain K (parallel (spread n ls) (spread n ms)) (spread n (ls ++ ms))
  spread_append [] ms f = by (rest_beside (sym (length_spread ms f)))
  spread_append (l ∷ ls) ms f = by parallel_associative ⟫ in_parallel_lem done (spread_append ls ms f)

  -- two lists of placed primitives in one score
  spread_both : (xs ys : List Placed) → AllByRecursion (Ends K n) ys → Chain K (parallel (spread n (map (line K n) xs)) (spread n (map (line K n) ys))) (spread n (map (line K n) (xs ++ ys)))
  spread_both xs ys w = rw (map_append (line K n) xs ys) (spread_append (map (line K n) xs) (map (line K n) ys) (full_lines ys w))

  spread_permuted : {ls ms : List Line} → Permutation ls ms → Chain K (spread n ls) (spread n ms)
  spread_permuted permuted-nil = done
  spread_permuted (permuted-cons e p) = in_parallel_lem (rw e done) (spread_permuted p)
  spread_permuted (permuted-swap e d) = inverse (by parallel_associative) ⟫ in_parallel_lem (by parallel_commutative ⟫ in_parallel_lem (rw d done) (rw e done)) done ⟫ by parallel_associative
  spread_permuted (permuted-trans p q) = spread_permuted p ⟫ spread_permuted q

  spread_from_line : (l : Line) (ls : List Line) → Full K n (l ∷ ls) → Chain K (spread n (l ∷ ls)) (from_line l ls)
  spread_from_line l [] f = beside_rest (sym f.0)
  spread_from_line l (m ∷ ms) f = in_parallel_lem done (spread_from_line m ms f.1)

  spread_together : (ls : List Line) → Full K n ls → Chain K (spread n ls) (together n ls)
  spread_together [] f = done
  spread_together (l ∷ ls) f = spread_from_line l ls f

  line_extend : {m : ℕ} (k : ℕ) (x : Placed) → x.onset + K.length_of x.what ≤ n → m ≡ n + k → Chain K (sequence (line_score (line K n x)) (rest k)) (line_score (line K m x))
  line_extend k x h e = by sequence_associative ⟫ in_sequence_lem done (by sequence_associative ⟫ in_sequence_lem done (by (rest_split (omega arith))))

  line_delay : (k : ℕ) (x : Placed) → Chain K (sequence (rest k) (line_score (line K n x))) (line_score (line K (k + n) (later k x)))
  line_delay k x =
      let same : n - x.onset - K.length_of x.what ≡ (k + n) - (k + x.onset) - K.length_of x.what = omega arith in
      inverse (by sequence_associative) ⟫ in_sequence_lem (by (rest_split refl)) (rw same done)

  spread_extend : {m : ℕ} (k : ℕ) (xs : List Placed) → AllByRecursion (Ends K n) xs → m ≡ n + k → Chain K (sequence (spread n (map (line K n) xs)) (rest k)) (spread m (map (line K m) xs))
  spread_extend k [] w e = by (rest_split e)
  spread_extend k (x ∷ xs) w e =
      rest_after (omega (arith, w.0, length_spread (map (line K n) xs) (full_lines xs w.1)))
      ⟫ in_parallel_lem (line_extend k x w.0 e) (spread_extend k xs w.1 e)

  spread_delay : (k : ℕ) (xs : List Placed) → Chain K (sequence (rest k) (spread n (map (line K n) xs))) (spread (k + n) (map (line K (k + n)) (map (later k) xs)))
  spread_delay k [] = by (rest_split refl)
  spread_delay k (x ∷ xs) = rest_before ⟫ in_parallel_lem (line_delay k x) (spread_delay k xs)

module _ (K : KindModel) where
  ends_longer : {m : ℕ} (n : ℕ) → m ≤ n → (xs : List Placed) → AllByRecursion (Ends K m) xs → AllByRecursion (Ends K n) xs
  ends_longer {m} n h xs w = All-weaker (Ends K m) (Ends K n) (λ x e. omega arith) xs w

  ends_later : (n k : ℕ) (xs : List Placed) → AllByRecursion (Ends K n) xs → AllByRecursion (Ends K (k + n)) (map (later k) xs)
  ends_later n k xs w = All-map (Ends K (k + n)) (later k) xs (All-weaker (Ends K n) (λ x. Ends K (k + n) (later k x)) (λ x e. omega arith) xs w)

  pub ends_placed : (s : Score) → AllByRecursion (Ends K (score_length K s)) (placed K s)
  ends_placed (rest d) = tt
  ends_placed (primitive p) = (omega arith, tt)
  ends_placed (sequence a b) =
      All-append (Ends K (score_length K (sequence a b))) (placed K a) (map (later (score_length K a)) (placed K b))
      (ends_longer _ (omega arith) (placed K a) (ends_placed a)) (ends_later (score_length K b) (score_length K a) (placed K b) (ends_placed b))
  ends_placed (parallel a b) =
      All-append (Ends K (score_length K (parallel a b))) (placed K a) (placed K b)
      (ends_longer _ (omega arith) (placed K a) (ends_placed a)) (ends_longer _ (omega arith) (placed K b) (ends_placed b))

  spread_reached : (s : Score) → Chain K s (spread (score_length K s) (lines K s))
  spread_reached (rest d) = done
  spread_reached (primitive p) =
      let none : 0 ≡ K.length_of p - 0 - K.length_of p = omega arith in
      inverse (beside_rest (omega arith) ⟫ by sequence_unit_left ⟫ rw (sym none) (by sequence_unit_right))
  spread_reached (sequence a b) =
      sequence_apart a b
      ⟫ in_parallel_lem
      (in_sequence_lem (spread_reached a) done ⟫ spread_extend K (score_length K a) (score_length K b) (placed K a) (ends_placed a) refl)
      (in_sequence_lem done (spread_reached b) ⟫ spread_delay K (score_length K b) (score_length K a) (placed K b))
      ⟫ spread_both K _ (placed K a) (map (later (score_length K a)) (placed K b)) (ends_later (score_length K b) (score_length K a) (placed K b) (ends_placed b))
  spread_reached (parallel a b) =
      parallel_apart a b
      ⟫ in_parallel_lem
      (in_sequence_lem (spread_reached a) done ⟫ spread_extend K (score_length K a) _ (placed K a) (ends_placed a) (omega arith))
      (in_sequence_lem (spread_reached b) done ⟫ spread_extend K (score_length K b) _ (placed K b) (ends_placed b) (omega arith))
      ⟫ spread_both K _ (placed K a) (placed K b) (ends_longer _ (omega arith) (placed K b) (ends_placed b))

  -- the score's lines, in any order
  pub lines_reached : (s : Score) (ls : List Line) → Permutation (lines K s) ls → Chain K s (together (score_length K s) ls)
  lines_reached s ls p =
      let full = full_lines K (score_length K s) (placed K s) (ends_placed s) in
      spread_reached s ⟫ spread_permuted K (score_length K s) p ⟫ spread_together K (score_length K s) ls (full_permuted K (score_length K s) p full)
