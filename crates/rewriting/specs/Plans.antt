-- Plans of a new score, made of rests and of other scores.
use Rattle.algebra.specs.Score.{Score, Score.rest}
use Rattle.nodes.specs.Joins.{joined}
use Rattle.rewriting.specs.declared.plan.Piece.{Piece}
use Rattle.rewriting.specs.declared.plan.Piece.TheVariants.{Rest, Part}
use Rattle.rewriting.specs.declared.plan.Pieces.{Pieces}
use Rattle.rewriting.specs.declared.plan.Pieces.TheVariants.{One, Two}
use Rattle.rewriting.specs.declared.plan.Plan.{Plan}
use Rattle.rewriting.specs.declared.plan.Plan.TheVariants.{Simple, Joined}

-- The score that a piece stands for.
abbrev pub piece_score : {P : Type 0} → Piece P → Score
piece_score (Rest d) = rest d
piece_score (Part s) = s

-- The score that one piece or two stand for.
abbrev pub pieces_score : {P : Type 0} → Pieces P → Score
pieces_score (One a) = piece_score a
pieces_score (Two join a b) = joined join (piece_score a) (piece_score b)

-- The score that a plan stands for.
abbrev pub plan_score : {P : Type 0} → Plan P → Score
plan_score (Simple a) = pieces_score a
plan_score (Joined join a b) = joined join (pieces_score a) (pieces_score b)
