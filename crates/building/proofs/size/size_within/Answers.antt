use Rattle.std.proofs.Common.{Err, ap, ◌∙◌}
use Rattle.std.proofs.lemmas.Result.{err_from_is_err_and}
use Rattle.building.proofs.Sizes.{size_is, sized_from}
use Rattle.building.proofs.size.size_within.Goals as goal

pub returns-in_err-limits : goal.returns-in_err-limits
returns-in_err-limits g c = λ s is long.
    let K = g.K.Kind.model in
    let size = size_is K s g.K.Kind.numbers_of c.args.row.now c.count_primitives.result c.args.length is (c.count_primitives.ensures s is) long in
    let p = err_from_is_err_and c.from_residual.result c.from_residual.ensures.1 in
    p.1 ∙ ap Err p.2 ∙ sized_from K s _ _ size c.in_err-limits.ensures.answer

pub returns : goal.returns
returns g c = λ s is long.
    let K = g.K.Kind.model in
    let size = size_is K s g.K.Kind.numbers_of c.args.row.now c.count_primitives.result c.args.length is (c.count_primitives.ensures s is) long in
    sized_from K s _ _ size c.in_ok-limits.ensures.answer
