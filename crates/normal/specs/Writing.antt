-- The line of a placed primitive, and the lines of several together, as scores.
use Rattle.std.specs.Prelude.{ℕ, List, map}
use Rattle.algebra.specs.Kind.{KindModel}
use Rattle.algebra.specs.Score.{Score, Placed}
use Rattle.algebra.specs.Normal.{line, line_score, together}

-- The line of a placed primitive in a score of length n.
abbrev pub line_of : KindModel → ℕ → Placed → Score
line_of K n x = line_score (line K n x)

-- The lines of placed primitives in a score of length n, put together; for none, the rest of length n.
abbrev pub lines_of : KindModel → ℕ → List Placed → Score
lines_of K n xs = together n (map (line K n) xs)
