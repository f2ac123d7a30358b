use Rattle.std.proofs.Common.{◌+◌, ◌-◌, arith}
use Rattle.rack.proofs.Joining.{join_written}
use Rattle.rack.proofs.rack.build.write_pair.Goals as goal

pub returns : goal.returns
returns g c =
    let l = c.args.left in
    let r = c.args.right in
    join_written g.K.Kind.numbers_of c.args.nodes.now _ _ c.args.to c.args.node l.at l.count r.at r.count (l.at + l.count - l.at) (r.at + r.count - r.at) (omega arith) (omega arith)
    c.requires.room c.requires.left_within c.requires.right_within c.requires.left_apart c.requires.right_apart c.copy_within.ensures.after c.copy_within-2.ensures.after
