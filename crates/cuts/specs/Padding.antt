-- What comes before the reverse of the shorter part of a parallel.
use Rattle.std.specs.Prelude.{ℕ, ◌-◌, Bool, false, not, cond, List, [], ◌∷◌, ◌==◌, nat_lt}
use Rattle.algebra.specs.declared.numbers.Numbers.{Numbers}
use Rattle.algebra.specs.declared.node.Node.{Node}
use Rattle.algebra.specs.declared.node.Node.TheVariants.{Rest, Sequence}
use Rattle.algebra.specs.Kind.{KindModel}
use Rattle.algebra.specs.Score.{Score, Score.rest, Score.primitive, Score.sequence, Score.parallel, score_length}

-- The nodes before a part of length own beside one of another length: where it is shorter, a sequence and a rest of the difference.
abbrev pub padding : ℕ → ℕ → List (Node Numbers)
padding other own = cond (nat_lt own other) (Sequence ∷ (Rest (other - own) ∷ [])) []

-- Whether a score is a parallel of two of different lengths: one of them then has such nodes before its reverse.
abbrev pub uneven_pair : KindModel → Score → Bool
uneven_pair K (rest d) = false
uneven_pair K (primitive p) = false
uneven_pair K (sequence a b) = false
uneven_pair K (parallel a b) = not (score_length K a == score_length K b)
