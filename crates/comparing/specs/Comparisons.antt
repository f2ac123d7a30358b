-- The answers of comparing, as the code has them.
use Rattle.std.specs.Prelude.{List, [], ◌∷◌, ◌++◌, Some, None, Option}
use Rattle.std.specs.declared.cmp.Ordering.TheVariants.{Less, Equal, Greater}
use Rattle.std.specs.declared.cmp.Ordering.{Ordering}
use Rattle.algebra.specs.Kind.{KindModel}
use Rattle.algebra.specs.Score.{Placed}
use Rattle.algebra.specs.Compare.{Answer, Answer.same, Answer.lengths, Answer.differs, compare_placed, least, counts_differ, answer_of}
use Rattle.normal.specs.declared.placed.PlacedNumbers.{PlacedNumbers}
use Rattle.normal.specs.Placing.{placed_of}
use Rattle.comparing.specs.declared.comparison.Comparison.{Comparison}
use Rattle.comparing.specs.declared.comparison.Comparison.TheVariants.{Same, Lengths, Differs}

-- An answer of the code, as one of the algebra.
abbrev pub meant : Comparison → Answer
meant Same = same
meant (Lengths m n) = lengths m n
meant (Differs x m n) = differs (placed_of x) m n

-- An answer of the algebra, as one of the code.
abbrev pub said : Answer → Comparison
said same = Same
said (lengths m n) = Lengths m n
said (differs x m n) = Differs (record { onset = x.onset; numbers = x.what }) m n

-- What comparing answers for scores of one length, by their bags.
abbrev pub bag_answer : KindModel → List Placed → List Placed → Answer
bag_answer K xs ys = answer_of xs ys (least K (counts_differ xs ys) (xs ++ ys))

-- A placed primitive of the code, if there is one, as one of the algebra.
abbrev pub found : Option PlacedNumbers → Option Placed
found None = None
found (Some x) = Some (placed_of x)

-- The lesser of two, or what is given where they are equal.
abbrev pub lesser_of : Placed → Placed → Option Placed → Ordering → Option Placed
lesser_of x y more Less = Some x
lesser_of x y more Equal = more
lesser_of x y more Greater = Some y

-- Where two lists first part, the lesser of what stands there.
abbrev pub parting : KindModel → List Placed → List Placed → Option Placed
parting K [] [] = None
parting K [] (y ∷ ys) = Some y
parting K (x ∷ xs) [] = Some x
parting K (x ∷ xs) (y ∷ ys) = lesser_of x y (parting K xs ys) (compare_placed K x y)
