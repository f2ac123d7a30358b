use Rattle.std.proofs.Common.{length, sym, ap, ◌∙◌}
use Rattle.normal.specs.Writing.{lines_of}
use Rattle.algebra.specs.Score.{placed}
use Rattle.algebra.proofs.Sizes.{length_placed}
use Rattle.partners.proofs.Afters.{length_ordered, lines_after, lines_alone}
use Rattle.partners.proofs.after.list_after.Goals as goal
use Rattle.partners.proofs.after.list_after.Goals.{then-length, else-length}

pub returns-clause-lines : goal.returns-clause-lines
returns-clause-lines g c =
    let K = g.K.Kind.model in
    let s = c.args.score.now in
    let model = c.args.model.now in
    let long = c.length-length.ensures.length in
    elim c.if-length.branch [
      | then-length w ↦ let is = w.placed-is ∙ w.fill_after.ensures in (λ i. lines_of K (long i) (is i)) ∙ lines_after K s model (sym long ∙ w.if-length.true ∙ c.length.ensures.length)
      | else-length w ↦ let is = w.placed-is ∙ w.fill.ensures.placed in (λ i. lines_of K (long i) (is i)) ∙ lines_alone K s model (λ e. w.if-length.false (long ∙ e ∙ sym c.length.ensures.length))
    ]

pub returns-clause-count : goal.returns-clause-count
returns-clause-count g c =
    let K = g.K.Kind.model in
    let s = c.args.score.now in
    elim c.if-length.branch [
      | then-length w ↦ ap length (w.placed-is ∙ w.fill_after.ensures) ∙ length_ordered (placed K s) (placed K c.args.model.now) ∙ length_placed K s
      | else-length w ↦ ap length w.placed-is ∙ w.fill.ensures.count
    ]
