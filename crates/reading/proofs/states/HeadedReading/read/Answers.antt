use Rattle.std.proofs.Common.{rules, sym, ◌∙◌}
use Rattle.std.proofs.lemmas.Slice.Eq.{bytes_eq-Decides}
use Rattle.std.proofs.lemmas.Bool.{both_ways, not-true, not-false}
use Rattle.reading.proofs.Whole.{kind_refused, tail_refused, read_as}
use Rattle.reading.proofs.states.HeadedReading.read.Goals as goal

pub returns-then-ne : goal.returns-then-ne
returns-then-ne c = kind_refused _ _ c.args.self.headed _ (λ e.
    both_ways _ (not-true _ (sym c.ne.ensures ∙ c.if-ne.true)) ((bytes_eq-Decides _ _).1 e))

pub returns-in_err-body : goal.returns-in_err-body
returns-in_err-body c =
    search (rules, tail_refused _ _ c.args.self.headed _ ((bytes_eq-Decides _ _).0 (not-false _ (sym c.ne.ensures ∙ c.if-ne.false))) _ c.in_err-body.ensures)

pub returns : goal.returns
returns c = read_as _ _ c.args.self.headed _ ((bytes_eq-Decides _ _).0 (not-false _ (sym c.ne.ensures ∙ c.if-ne.false))) _ _ c.clear.ensures c.in_ok-body.ensures
