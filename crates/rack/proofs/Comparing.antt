-- What comparing answers is the one right answer, and is same exactly where a chain leads.
use Rattle.std.proofs.Common.{◌≡◌, ℕ, ◌↔◌, sym, refl, ap, ◌∙◌, arith}
use Rattle.algebra.specs.Kind.{KindModel, OrderLaws}
use Rattle.algebra.specs.Score.{Score, Legal}
use Rattle.algebra.specs.Rules.{Chain}
use Rattle.algebra.specs.Compare.{Answer, Answer.same, Answer.lengths, Answer.differs, compared}
use Rattle.algebra.proofs.Compare.{compare_says}
use Rattle.algebra.proofs.Differing.{compare_same}
use Rattle.comparing.specs.declared.comparison.Comparison.{Comparison}
use Rattle.comparing.specs.declared.comparison.Comparison.TheVariants.{Same}
use Rattle.comparing.specs.Comparisons.{meant, said}
use Rattle.rack.specs.Comparing.{OnlyAnswer}

meant_said : (a : Answer) → meant (said a) ≡ a
meant_said same = refl
meant_said (lengths m n) = refl
meant_said (differs x m n) = refl

said_same : (a : Answer) → said a ≡ Same → a ≡ same
said_same same e = refl
said_same (lengths m n) e = let z : ◌≡◌ {A = ℕ} 0 1 = cc in absurd (omega arith)
said_same (differs x m n) e = let z : ◌≡◌ {A = ℕ} 0 1 = cc in absurd (omega arith)

module _ (K : KindModel) (s t : Score) (answer : Comparison) (is : answer ≡ said (compared K s t)) where
  pub same_exactly : (answer ≡ Same) ↔ Chain K s t
  same_exactly = (
    (λ e. (compare_same K s t).0 (said_same (compared K s t) (sym is ∙ e))),
    λ c. is ∙ ap said ((compare_same K s t).1 c),
  )

  pub only_answer : OrderLaws K → Legal K s → Legal K t → OnlyAnswer K s t answer
  only_answer order l m a =
      let right : meant answer ≡ compared K s t = ap meant is ∙ meant_said (compared K s t) in
      ((λ h. (compare_says K order s t l m a).0 h ∙ sym right), λ e. (compare_says K order s t l m a).1 (e ∙ right))
