-- The first ticks of a score, case by case.
use Rattle.std.proofs.Common.{◌≡◌, ℕ, ◌-◌, ◌<◌, ◌≤◌, sym, ap, ◌∙◌, arith}
use Rattle.std.proofs.lemmas.Bool.{le-leb, lt-leb}
use Rattle.algebra.specs.Kind.{KindModel}
use Rattle.algebra.specs.Score.{Score, Score.rest, Score.primitive, Score.sequence, Score.parallel, score_length}
use Rattle.algebra.specs.Cuts.{taken}
use Rattle.nodes.specs.declared.join.Join.{Join}
use Rattle.nodes.specs.declared.join.Join.TheVariants as joins
use Rattle.nodes.specs.Joins.{joined}

-- a score no longer than t is itself
pub take_all : (K : KindModel) (t : ℕ) (s : Score) → score_length K s ≤ t → taken K t s ≡ s
take_all K t (rest d) h = rw (le-leb d t h)
take_all K t (primitive p) h = rw (le-leb (K.length_of p) t h)
take_all K t (sequence a b) h = rw (le-leb (score_length K (sequence a b)) t h)
take_all K t (parallel a b) h = rw (le-leb (score_length K (parallel a b)) t h)

module _ (K : KindModel) (s a b : Score) (j : Join) (t : ℕ) (is : s ≡ joined j a b) (h : t < score_length K s) where
  long : (k : Join) → j ≡ k → t < score_length K (joined k a b)
  long k e = omega (arith, h, ap (score_length K) (is ∙ ap (λ l. joined l a b) e))

  pub take_past : (n : ℕ) → j ≡ joins.Sequence → n ≡ score_length K a → n < t → taken K t s ≡ sequence a (taken K (t - n) b)
  take_past n e m l =
      ap (taken K t) (is ∙ ap (λ k. joined k a b) e) ∙ (rw (lt-leb (score_length K (sequence a b)) t (long joins.Sequence e), lt-leb t (score_length K a) (omega (arith, m, l))))
      ∙ ap (λ k. sequence a (taken K (t - k) b)) (sym m)

  pub take_both : j ≡ joins.Parallel → taken K t s ≡ parallel (taken K t a) (taken K t b)
  take_both e = ap (taken K t) (is ∙ ap (λ k. joined k a b) e) ∙ rw (lt-leb (score_length K (parallel a b)) t (long joins.Parallel e))
