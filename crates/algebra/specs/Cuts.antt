-- Take, drop and reverse of a score, and what each makes of length and bag.
use Rattle.std.specs.Prelude.{ℕ, ◌+◌, ◌-◌, min, cond, List, [], ◌∷◌, map, ◌==◌, nat_le, nat_lt}
use Rattle.algebra.specs.Bag.{flat_map}
use Rattle.algebra.specs.Kind.{KindModel}
use Rattle.algebra.specs.Score.{Score, Score.rest, Score.primitive, Score.sequence, Score.parallel, score_length, Placed}

-- The first t ticks; a score no longer than t is itself.
abbrev pub taken : KindModel → ℕ → Score → Score
taken K t (rest d) = cond (nat_le d t) (rest d) (rest t)
taken K t (primitive p) = cond (nat_le (K.length_of p) t) (primitive p) (cond (t == 0) (rest 0) (primitive (K.head_of t p)))
taken K t (sequence a b) =
    cond (nat_le (score_length K (sequence a b)) t) (sequence a b)
    (cond (nat_le t (score_length K a)) (taken K t a) (sequence a (taken K (t - score_length K a) b)))
taken K t (parallel a b) = cond (nat_le (score_length K (parallel a b)) t) (parallel a b) (parallel (taken K t a) (taken K t b))

-- What follows the first t ticks; for t = 0 a score is itself.
abbrev pub dropped : KindModel → ℕ → Score → Score
dropped K t (rest d) = cond (t == 0) (rest d) (rest (d - t))
dropped K t (primitive p) = cond (t == 0) (primitive p) (cond (nat_le (K.length_of p) t) (rest 0) (primitive (K.tail_of t p)))
dropped K t (sequence a b) =
    cond (t == 0) (sequence a b)
    (cond (nat_le (score_length K a) t) (dropped K (t - score_length K a) b) (sequence (dropped K t a) b))
dropped K t (parallel a b) = cond (t == 0) (parallel a b) (parallel (dropped K t a) (dropped K t b))

-- A part of length m beside one of length n: preceded by a rest of the difference where it is shorter.
abbrev pub preceded : ℕ → ℕ → Score → Score
preceded n m a = cond (nat_lt m n) (sequence (rest (n - m)) a) a

-- The score played backward. The parts of a parallel begin together, so their reverses end together.
abbrev pub reversed : KindModel → Score → Score
reversed K (rest d) = rest d
reversed K (primitive p) = primitive (K.reverse_of p)
reversed K (sequence a b) = sequence (reversed K b) (reversed K a)
reversed K (parallel a b) = parallel (preceded (score_length K b) (score_length K a) (reversed K a)) (preceded (score_length K a) (score_length K b) (reversed K b))

-- How many parallels have parts that differ in length.
abbrev pub uneven : KindModel → Score → ℕ
uneven K (rest d) = 0
uneven K (primitive p) = 0
uneven K (sequence a b) = uneven K a + uneven K b
uneven K (parallel a b) = cond (score_length K a == score_length K b) 0 1 + uneven K a + uneven K b

-- The bag rules, for a primitive p of length L at onset s in a score of length n.
-- Take t has, where s < t, head min(L, t − s) at s.
abbrev pub taken_one : KindModel → ℕ → Placed → List Placed
taken_one K t x = cond (nat_lt x.onset t) (record { onset = x.onset; what = K.head_of (min (K.length_of x.what) (t - x.onset)) x.what } ∷ []) []

-- Likewise for a whole bag.
abbrev pub taken_bag : KindModel → ℕ → List Placed → List Placed
taken_bag K t xs = flat_map (taken_one K t) xs

-- Drop t has, where s + L > t, tail max(t − s, 0) at max(s − t, 0).
abbrev pub dropped_one : KindModel → ℕ → Placed → List Placed
dropped_one K t x = cond (nat_lt t (x.onset + K.length_of x.what)) (record { onset = x.onset - t; what = K.tail_of (t - x.onset) x.what } ∷ []) []

-- Likewise for a whole bag.
abbrev pub dropped_bag : KindModel → ℕ → List Placed → List Placed
dropped_bag K t xs = flat_map (dropped_one K t) xs

-- The reverse of a score of length n has p's reverse at n − s − L.
abbrev pub reversed_one : KindModel → ℕ → Placed → Placed
reversed_one K n x = record { onset = n - x.onset - K.length_of x.what; what = K.reverse_of x.what }

-- Likewise for a whole bag.
abbrev pub reversed_bag : KindModel → ℕ → List Placed → List Placed
reversed_bag K n xs = map (reversed_one K n) xs
