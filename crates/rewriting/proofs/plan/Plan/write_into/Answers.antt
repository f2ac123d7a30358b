use Rattle.std.proofs.Common.{ap}
use Rattle.rewriting.specs.Plans.{pieces_score, plan_score}
use Rattle.rewriting.proofs.Joining.{second_fits}
use Rattle.rewriting.proofs.plan.Plan.write_into.Goals as goal

pub write_into-requires-in-Joined-2 : goal.write_into-requires-in-Joined-2
write_into-requires-in-Joined-2 g c =
    second_fits c.in-Joined.join (pieces_score c.in-Joined.left) (pieces_score c.in-Joined.right) (ap plan_score c.in-Joined.is) _ _ _ _ c.requires c.push.ensures.items c.push.ensures.room c.write_into-in-Joined.ensures.items c.write_into-in-Joined.ensures.room
