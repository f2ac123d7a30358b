use Rattle.std.proofs.Common.{◌≡◌, ◌-◌, min, length, replicate, ap, ◌∙◌, arith}
use Rattle.std.proofs.lemmas.List.{length-replicate}
use Rattle.render.proofs.Rows.{length_front, take_written, drop_written}
use Rattle.render.proofs.grid.clear.Goals as goal

pub returns : goal.returns
returns c =
    let row = c.args.cells.now in
    let n = c.used-used.result - 0 in
    let is : n ≡ min (length row) 4096 = omega arith in
    let cleared : c.fill.new.self ≡ replicate (min (length row) 4096) 0 = c.fill.ensures.after (λ y same. same) ∙ ap (λ k. replicate k 0) (length_front row 4096 n is ∙ is) in
    let size : length c.fill.new.self ≡ n = ap length cleared ∙ length-replicate (min (length row) 4096) 0 ∙ omega arith in
    record {
      used = take_written row 4096 n is c.fill.new.self size ∙ cleared;
      others = drop_written row 4096 n is c.fill.new.self size;
    }
