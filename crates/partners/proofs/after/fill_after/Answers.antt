use Rattle.std.proofs.Common.{length, ap, arith}
use Rattle.nodes.proofs.Lists.{put_long}
use Rattle.partners.proofs.Afters.{length_both}
use Rattle.partners.proofs.after.fill_after.Goals as goal

pub choose-requires : goal.choose-requires
choose-requires g c = let both = length_both c.fill.new.self c.fill-2.new.self in omega (arith, ap length c.requires, c.fill.ensures.count, c.fill.ensures.limited.few)

pub choose-requires-2 : goal.choose-requires-2
choose-requires-2 g c =
    let both = length_both c.fill.new.self c.fill-2.new.self in
    omega (arith, put_long c.args.ordered.now _ c.choose.ensures, ap length c.requires, c.fill.ensures.count, c.fill.ensures.limited.few)
