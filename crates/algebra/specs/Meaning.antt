-- What a score means: a length and a bag of placed primitives.
use Rattle.std.specs.Prelude.{◌≡◌, ℕ, List}
use Rattle.algebra.specs.Bag.{count}
use Rattle.algebra.specs.Kind.{KindModel}
use Rattle.algebra.specs.Score.{Score, score_length, Placed, placed, same_placed}

-- Equal bags: every placed primitive occurs equally often.
abbrev pub SameBag : List Placed → List Placed → Type 0
SameBag xs ys = (x : Placed) → count same_placed x xs ≡ count same_placed x ys

-- A score that means a length and a bag; the bag may be written in any order.
abbrev pub Means : KindModel → Score → ℕ → List Placed → Type 0
Means K s n xs = (score_length K s ≡ n) × SameBag (placed K s) xs

-- Two scores of one length and one bag.
abbrev pub SameMeaning : KindModel → Score → Score → Type 0
SameMeaning K s t = Means K s (score_length K t) (placed K t)
