use Rattle.std.proofs.Common.{ap, ◌∙◌, ap₂}
use Rattle.algebra.specs.Compare.{answer_of}
use Rattle.comparing.specs.declared.comparison.Comparison.TheVariants.{Differs}
use Rattle.comparing.specs.Comparisons.{said}
use Rattle.comparing.proofs.Partings.{parting_answer}
use Rattle.comparing.proofs.differing.compare_bags.Goals as goal

pub returns-in-Some : goal.returns-in-Some
returns-in-Some g c =
    let left = c.fill in
    let right = c.fill-2 in
    ap₂ (Differs c.in-Some.placed) c.count_of.ensures c.count_of-in-Some.ensures ∙ ap (λ o. said (answer_of left.new.self right.new.self o)) c.in-Some.ensures
    ∙ ap said (parting_answer g.K.Kind.model g.met.K.Kind.lawful.order _ _ _ _ left.ensures.order right.ensures.order left.ensures.bag right.ensures.bag)

pub returns-in-None : goal.returns-in-None
returns-in-None g c =
    let left = c.fill in
    let right = c.fill-2 in
    ap (λ o. said (answer_of left.new.self right.new.self o)) c.in-None.ensures
    ∙ ap said (parting_answer g.K.Kind.model g.met.K.Kind.lawful.order _ _ _ _ left.ensures.order right.ensures.order left.ensures.bag right.ensures.bag)
