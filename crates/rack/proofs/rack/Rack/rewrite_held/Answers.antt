use Rattle.std.proofs.Common.{Some, sym, ◌∙◌, subst}
use Rattle.nodes.specs.Lists.{Roomy}
use Rattle.building.specs.Steps.{stepped}
use Rattle.rack.proofs.Making.{stepped_few, laid_roomy}
use Rattle.rack.proofs.rack.Rack.rewrite_held.Goals as goal

pub invariant_of-out : goal.invariant_of-out
invariant_of-out g c =
    let few = stepped_few g.K.Kind.model c.args.node (stepped g.K.Kind.model (Some c.args.step) c.args.node c.score.result) in
    subst Roomy (sym c.rewrite.ensures.after) (laid_roomy c.out.inside.list _ c.rewrite.result _ c.out.invariant (c.out.view_is ∙ c.requires.none) c.rewrite.ensures.answer few)
