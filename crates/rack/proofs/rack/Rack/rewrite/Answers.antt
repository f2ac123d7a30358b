use Rattle.std.proofs.Common.{Err, length, ap, ◌∙◌, arith}
use Rattle.std.proofs.lemmas.Result.{err_from_is_err_and}
use Rattle.building.specs.Steps.{step_checks}
use Rattle.rack.proofs.Room.{fewer_bytes}
use Rattle.rack.proofs.Shelves.{length_shelf, all_first}
use Rattle.rack.proofs.rack.Rack.rewrite.Goals as goal

pub returns-in_err-step-clause-answer : goal.returns-in_err-step-clause-answer
returns-in_err-step-clause-answer g c =
    let p = err_from_is_err_and c.from_residual.result c.from_residual.ensures.1 in
    p.1 ∙ ap Err p.2 ∙ all_first (step_checks c.args.rule c.args.way c.args.split) _ _ c.in_err-step.ensures.answer

pub whole_as_slice-over : goal.whole_as_slice-over
whole_as_slice-over g c =
    fewer_bytes c.self.inside.nodes.now c.args.place _ _ (omega (arith, c.in_ok-known.ensures.within, ap length c.self.view_is, length_shelf g.K.Kind.numbers_of c.self.inside.nodes.now c.self.inside.places)) c.self.ranges.0.0.1.1
