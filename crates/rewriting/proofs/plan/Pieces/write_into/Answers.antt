use Rattle.std.proofs.Common.{ap}
use Rattle.rewriting.specs.Plans.{piece_score, pieces_score}
use Rattle.rewriting.proofs.Joining.{second_fits}
use Rattle.rewriting.proofs.plan.Pieces.write_into.Goals as goal

pub write_into-requires-in-Two-2 : goal.write_into-requires-in-Two-2
write_into-requires-in-Two-2 g c =
    second_fits c.in-Two.join (piece_score c.in-Two.left) (piece_score c.in-Two.right) (ap pieces_score c.in-Two.is) _ _ _ _ c.requires c.push.ensures.items c.push.ensures.room c.write_into-in-Two.ensures.items c.write_into-in-Two.ensures.room
