-- The normal form of a score, by itself and after a model.
use Rattle.std.specs.Prelude.{ℕ, ◌-◌, Bool, ◌&&◌, List, [], ◌∷◌, map, ◌==◌}
use Rattle.algebra.specs.Bag.{ordered_after}
use Rattle.algebra.specs.Kind.{KindModel}
use Rattle.algebra.specs.Score.{Score, Score.rest, Score.primitive, Score.sequence, Score.parallel, score_length, Placed, placed, same_placed}

-- A placed primitive with the rest that follows it up to the end of the score.
pub record Line : Type 0 where
  pub body : Placed
  pub after : ℕ

-- Equal lines.
abbrev pub same_line : Line → Line → Bool
same_line x y = same_placed x.body y.body && x.after == y.after

-- The line of a placed primitive in a score of length n.
abbrev pub line : KindModel → ℕ → Placed → Line
line K n x = record { body = x; after = n - x.onset - K.length_of x.what }

-- A line as a score: (rs+(p+rt)) for p at onset s with t ticks after it.
abbrev pub line_score : Line → Score
line_score l = sequence (rest l.body.onset) (sequence (primitive l.body.what) (rest l.after))

-- The lines of a score, as its primitives stand in the term from left to right.
abbrev pub lines : KindModel → Score → List Line
lines K s = map (line K (score_length K s)) (placed K s)

-- A line and those that follow it, put together as (l1|(l2|(l3|…))).
abbrev pub from_line : Line → List Line → Score
from_line l [] = line_score l
from_line l (m ∷ ms) = parallel (line_score l) (from_line m ms)

-- Lines put together; for no line, the rest of length n.
abbrev pub together : ℕ → List Line → Score
together n [] = rest n
together n (l ∷ ls) = from_line l ls

-- The normal form: the score's lines, in their order.
abbrev pub normal : KindModel → Score → Score
normal K s = together (score_length K s) (lines K s)

-- The normal form after a model: the score's own lines, in the order of the model's.
abbrev pub normal_after : KindModel → Score → Score → Score
normal_after K s model = together (score_length K s) (ordered_after same_line (lines K s) (lines K model))
