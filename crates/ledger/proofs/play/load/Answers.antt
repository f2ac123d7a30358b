use Rattle.std.proofs.Common.{Err, sym, ap, ◌∙◌, subst}
use Rattle.std.proofs.lemmas.Result.{err_from_is_err_and}
use Rattle.algebra.specs.Score.{Score.rest}
use Rattle.grammar.specs.Loads.{Loads.refused}
use Rattle.grammar.specs.Refusals.{HeadRefused, Refused.headless}
use Rattle.rack.specs.Calls.{put}
use Rattle.ledger.proofs.play.load.Goals as goal

pub returns-in_err-headed : goal.returns-in_err-headed
returns-in_err-headed g c =
    let before = c.args.rack.now in
    let p = err_from_is_err_and c.from_residual.result c.from_residual.ensures.1 in
    let e = c.in_err-headed.field-0.0 in
    let head : HeadRefused c.args.text.now e = subst (λ t. HeadRefused t.now e) c.new.ensures c.in_err-headed.ensures in
    record { given = Err e; gives = refused (headless head); answer_is = p.1 ∙ ap Err p.2; after_is = sym (ap (λ r. put r before c.args.to (rest 0)) p.1) }
