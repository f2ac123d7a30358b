-- Placed primitives of the parts of a score, and of a list.
use Rattle.std.proofs.Common.{◌≡◌, ℕ, ◌+◌, ◌<◌, List, [], ◌∷◌, ◌++◌, map, length, get_or, sym, refl, ap, ◌∙◌, subst, arith}
use Rattle.std.proofs.ByRecursion.{All-get_or}
use Rattle.std.proofs.lemmas.List.{length-map, map-append, get_or-map}
use Rattle.algebra.specs.Kind.{KindModel, LegalNumbers}
use Rattle.algebra.specs.Score.{Score, Score.sequence, score_length, primitives, Placed, placed, later}
use Rattle.algebra.proofs.Sizes.{length_placed}
use Rattle.normal.specs.declared.placed.PlacedNumbers.{PlacedNumbers}
use Rattle.normal.specs.Placing.{placed_of, all_placed, AllLegal}

-- later by an onset, and then by another
later_later : (m n : ℕ) (xs : List Placed) → map (later m) (map (later n) xs) ≡ map (later (m + n)) xs
later_later m n [] = refl
later_later m n (x ∷ xs) =
    let same : m + (n + x.onset) ≡ m + n + x.onset = omega arith in
    λ i. record { onset = same i; what = x.what } ∷ later_later m n xs i

pub later_none : (xs : List Placed) → map (later 0) xs ≡ xs
later_none [] = refl
later_none (x ∷ xs) =
    let same : 0 + x.onset ≡ x.onset = omega arith in
    λ i. record { onset = same i; what = x.what } ∷ later_none xs i

module _ (K : KindModel) where
  -- the placed primitives of a score that begins at an onset
  abbrev pub placed_from : ℕ → Score → List Placed
  placed_from m s = map (later m) (placed K s)

  pub length_from : (m : ℕ) (s : Score) → length (placed_from m s) ≡ primitives s
  length_from m s = length-map (placed K s) (later m) ∙ length_placed K s

  sequence_from : (m : ℕ) (a b : Score) → placed_from m (sequence a b) ≡ placed_from m a ++ placed_from (m + score_length K a) b
  sequence_from m a b =
      map-append (later m) (placed K a) (map (later (score_length K a)) (placed K b)) ∙ ap (λ ys. placed_from m a ++ ys) (later_later m (score_length K a) (placed K b))

  -- of a sequence, those of the left part, and those of the right, which begins where the left ends
  pub from_sequence : (m : ℕ) (a b : Score) {s : Score} → s ≡ sequence a b → {n : ℕ} → n ≡ score_length K a → placed_from m s ≡ placed_from m a ++ placed_from (m + n) b
  from_sequence m a b is e = ap (placed_from m) is ∙ sequence_from m a b ∙ ap (λ k. placed_from m a ++ placed_from (m + k) b) (sym e)

-- the numbers of a placed primitive in a list are legal where those of all are
pub legal_at : (K : KindModel) (xs : List PlacedNumbers) (i : ℕ) (d : PlacedNumbers) → i < length xs → AllLegal K (all_placed xs) → LegalNumbers K (get_or xs i d).numbers
legal_at K xs i d h l =
    subst (λ (x : Placed). LegalNumbers K x.what) (get_or-map placed_of xs i d (placed_of d) h)
    (All-get_or (λ x. LegalNumbers K x.what) (all_placed xs) i (placed_of d) (omega (arith, length-map xs placed_of)) l)
