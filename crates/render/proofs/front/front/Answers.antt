use Rattle.std.proofs.Common.{◌-◌, arith}
use Rattle.render.proofs.Rows.{front}
use Rattle.render.proofs.front.front.Goals as goal

pub returns : goal.returns
returns g c = front c.args.row.now c.args.most (c.min-end.result - 0) (omega arith)
