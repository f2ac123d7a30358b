-- What a form found in a score says of what is made there.
use Rattle.std.proofs.Common.{◌≡◌, eqb, Some, Option, refl, ap, ◌∙◌}
use Rattle.algebra.specs.declared.rule.Way.TheVariants.{Forth, Back}
use Rattle.algebra.specs.declared.rule.Rule.TheVariants.{Exchange}
use Rattle.algebra.specs.Kind.{KindModel}
use Rattle.algebra.specs.Score.{Score, score_length}
use Rattle.algebra.specs.Rewrite.{in_rest, provided, other_side}
use Rattle.nodes.specs.declared.join.Join.{Join}
use Rattle.nodes.specs.declared.join.Join.TheVariants.{Sequence, Parallel}
use Rattle.nodes.specs.Joins.{joined}
use Rattle.rewriting.specs.Matches.{in_join}
use Rattle.rewriting.specs.Rules.{associative, unit_left, unit_right, left_ticks, other_join, exchange_way, beside_length}

-- the parts of a join
in_join_lem : (join : Join) (a b : Score) (make : Score → Score → Option Score) → in_join join (joined join a b) make ≡ make a b
in_join_lem Sequence a b make = refl
in_join_lem Parallel a b make = refl

pub parted : (join : Join) (s a b : Score) → s ≡ joined join a b → (make : Score → Score → Option Score) → in_join join s make ≡ make a b
parted join s a b e make = ap (λ t. in_join join t make) e ∙ in_join_lem join a b make

-- rules that say of both joins the same
module _ (K : KindModel) where
  pub associated_forth : (join : Join) (s : Score) → other_side K (associative join) Forth 0 s ≡ in_join join s (λ l c. in_join join l (λ a b. Some (joined join a (joined join b c))))
  associated_forth Sequence s = refl
  associated_forth Parallel s = refl

  pub associated_back : (join : Join) (s : Score) → other_side K (associative join) Back 0 s ≡ in_join join s (λ a r. in_join join r (λ b c. Some (joined join (joined join a b) c)))
  associated_back Sequence s = refl
  associated_back Parallel s = refl

  pub unit_left_lem : (join : Join) (s : Score) → other_side K (unit_left join) Forth 0 s ≡ in_join join s (λ z a. in_rest z (λ n. provided (eqb n (left_ticks K join a)) a))
  unit_left_lem Sequence s = refl
  unit_left_lem Parallel s = refl

  pub unit_right_lem : (join : Join) (s : Score) → other_side K (unit_right join) Forth 0 s ≡ in_join join s (λ a z. in_rest z (λ n. provided (eqb n 0) a))
  unit_right_lem Sequence s = refl
  unit_right_lem Parallel s = refl

  pub exchanged : (outer : Join) (s : Score)
      → other_side K Exchange (exchange_way outer) 0 s
      ≡ in_join outer s (λ x y. in_join (other_join outer) x (λ a b. in_join (other_join outer) y (λ c d. provided (eqb (score_length K a) (beside_length K outer b c)) (joined (other_join outer) (joined outer a c) (joined outer b d)))))
  exchanged Sequence s = refl
  exchanged Parallel s = refl
