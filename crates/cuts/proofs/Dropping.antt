-- What follows the first ticks of a score, case by case.
use Rattle.std.proofs.Common.{◌≡◌, ℕ, ◌<◌, refl, ap, ◌∙◌}
use Rattle.std.proofs.lemmas.Bool.{lt-leb, ne_eqb}
use Rattle.algebra.specs.Kind.{KindModel}
use Rattle.algebra.specs.Score.{Score, Score.rest, Score.primitive, Score.sequence, Score.parallel, score_length}
use Rattle.algebra.specs.Cuts.{dropped}
use Rattle.nodes.specs.declared.join.Join.{Join}
use Rattle.nodes.specs.declared.join.Join.TheVariants as joins
use Rattle.nodes.specs.Joins.{joined}

dropped_none : (K : KindModel) (s : Score) → dropped K 0 s ≡ s
dropped_none K (rest d) = refl
dropped_none K (primitive p) = refl
dropped_none K (sequence a b) = refl
dropped_none K (parallel a b) = refl

pub drop_none : (K : KindModel) (t : ℕ) (s : Score) → t ≡ 0 → dropped K t s ≡ s
drop_none K t s e = ap (λ n. dropped K n s) e ∙ dropped_none K s

module _ (K : KindModel) (s a b : Score) (j : Join) (t : ℕ) (is : s ≡ joined j a b) (some : t ≡ 0 → ⊥) where
  pub drop_within : j ≡ joins.Sequence → t < score_length K a → dropped K t s ≡ sequence (dropped K t a) b
  drop_within e h = ap (dropped K t) (is ∙ ap (λ k. joined k a b) e) ∙ rw (ne_eqb t 0 some, lt-leb (score_length K a) t h)

  pub drop_both : j ≡ joins.Parallel → dropped K t s ≡ parallel (dropped K t a) (dropped K t b)
  drop_both e = ap (dropped K t) (is ∙ ap (λ k. joined k a b) e) ∙ rw (ne_eqb t 0 some)
