-- What comparing two scores answers.
use Rattle.std.specs.Prelude.{◌≡◌, ℕ, Bool, cond, not, List, [], ◌∷◌, ◌++◌, Some, None, Option, ◌==◌, ◌≢◌}
use Rattle.std.specs.declared.cmp.Ordering.TheVariants.{Less}
use Rattle.std.specs.declared.cmp.Ordering.{Ordering}
use Rattle.std.specs.Ordering.{is_lt}
use Rattle.algebra.specs.Bag.{count}
use Rattle.algebra.specs.Kind.{KindModel, smaller_first}
use Rattle.algebra.specs.Score.{Score, score_length, Placed, placed, same_placed}
use Rattle.algebra.specs.Meaning.{SameBag, SameMeaning}

-- The answers: one meaning, two lengths, or a placed primitive with how often it occurs in each score.
pub data Answer : Type 0 where
  same : Answer
  lengths : ℕ → ℕ → Answer
  differs : Placed → ℕ → ℕ → Answer

-- The order of placed primitives: by onset, and at one onset by the kind's comparing.
abbrev pub compare_placed : KindModel → Placed → Placed → Ordering
compare_placed K x y = smaller_first x.onset y.onset (K.compare_of x.what y.what)

-- What an answer says of two lengths with their bags: both agree; the lengths differ; or, at one length, this is the least placed
-- primitive whose counts differ, with both counts.
abbrev pub SaysOf : KindModel → ℕ → List Placed → ℕ → List Placed → Answer → Type 0
SaysOf K m xs n ys same = (m ≡ n) × SameBag xs ys
SaysOf K m xs n ys (lengths j k) = (m ≡ j) × (n ≡ k) × (j ≢ k)
SaysOf K m xs n ys (differs x j k) =
    (m ≡ n) × (count same_placed x xs ≡ j) × (count same_placed x ys ≡ k) × (j ≢ k) ×
    ((y : Placed) → compare_placed K y x ≡ Less → count same_placed y xs ≡ count same_placed y ys)

-- What an answer says: one meaning; both lengths, which differ; or the least placed primitive whose counts differ, with both counts.
abbrev pub Says : KindModel → Score → Score → Answer → Type 0
Says K s t same = SameMeaning K s t
Says K s t (lengths m n) = (score_length K s ≡ m) × (score_length K t ≡ n) × (m ≢ n)
Says K s t (differs x m n) =
    (score_length K s ≡ score_length K t) × (count same_placed x (placed K s) ≡ m) × (count same_placed x (placed K t) ≡ n) × (m ≢ n) ×
    ((y : Placed) → compare_placed K y x ≡ Less → count same_placed y (placed K s) ≡ count same_placed y (placed K t))

-- The lesser of two.
abbrev pub lesser : KindModel → Placed → Option Placed → Placed
lesser K x None = x
lesser K x (Some y) = cond (is_lt (compare_placed K y x)) y x

-- The least of a list that passes a test.
abbrev pub least : KindModel → (Placed → Bool) → List Placed → Option Placed
least K f [] = None
least K f (x ∷ xs) = let more = least K f xs in cond (f x) (Some (lesser K x more)) more

-- Whether a placed primitive occurs more often in one list than in the other.
abbrev pub counts_differ : List Placed → List Placed → Placed → Bool
counts_differ xs ys x = not (count same_placed x xs == count same_placed x ys)

-- The answer by the least whose counts differ, if there is one.
abbrev pub answer_of : List Placed → List Placed → Option Placed → Answer
answer_of xs ys None = same
answer_of xs ys (Some x) = differs x (count same_placed x xs) (count same_placed x ys)

-- The answer of comparing: by the lengths, and where they agree by the bags.
abbrev pub compared : KindModel → Score → Score → Answer
compared K s t =
    let xs = placed K s in
    let ys = placed K t in
    cond (score_length K s == score_length K t) (answer_of xs ys (least K (counts_differ xs ys) (xs ++ ys))) (lengths (score_length K s) (score_length K t))
