use Rattle.std.proofs.Common.{sym, ◌∙◌, subst}
use Rattle.nodes.specs.Lists.{Roomy}
use Rattle.rack.proofs.Making.{sized_few, laid_roomy}
use Rattle.rack.proofs.rack.Rack.change_held.Goals as goal

pub invariant_of-out : goal.invariant_of-out
invariant_of-out g c =
    subst Roomy (sym c.change.ensures.after) (laid_roomy c.out.inside.list _ c.change.result _ c.out.invariant (c.out.view_is ∙ c.requires.none) c.change.ensures.answer (sized_few g.K.Kind.model _))
