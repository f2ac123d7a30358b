use Rattle.std.proofs.Common.{◌≡◌, ◌+◌, get_or, refl, arith}
use Rattle.std.specs.List.{slice_get}
use Rattle.std.specs.Option.{option_copied}
use Rattle.std.proofs.lemmas.Grind.{common_steps}
use Rattle.std.proofs.lemmas.Option.{gets}
use Rattle.partners.proofs.Spendings.{past_end, partner_here, another_here}
use Rattle.partners.proofs.spending.Partners.spend.Goals as goal

pub returns-then-start-sorted : goal.returns-then-start-sorted
returns-then-start-sorted g c =
    past_end g.K.Kind.model g.met.K.Kind.lawful.order c.args.self.now.sorted _ c.items-sorted.ensures.placed c.items-sorted.ensures.order c.args.self.now.spent (omega (arith, c.items-sorted.ensures.few)) c.args.item c.requires _ c.run_start-start.ensures (omega arith)

pub returns-then-ne : goal.returns-then-ne
returns-then-ne g c =
    let start = c.run_start-start.result in
    let found : option_copied c.get.result ≡ slice_get c.items-sorted.result.now (start + get_or c.args.self.now.spent start 0) = grind (arith, common_steps, gets) in
    another_here g.K.Kind.model g.met.K.Kind.lawful.order c.args.self.now.sorted c.items-sorted.result.now c.items-sorted.ensures.placed c.items-sorted.ensures.order c.args.self.now.spent (omega (arith, c.items-sorted.ensures.few)) c.args.item c.requires start c.run_start-start.ensures
    c.get.result found _ refl c.ne.result c.ne.ensures c.if-ne.true

pub returns : goal.returns
returns g c =
    let start = c.run_start-start.result in
    let found : option_copied c.get.result ≡ slice_get c.items-sorted.result.now (start + get_or c.args.self.now.spent start 0) = grind (arith, common_steps, gets) in
    partner_here g.K.Kind.model g.met.K.Kind.lawful.order c.args.self.now.sorted c.items-sorted.result.now c.items-sorted.ensures.placed c.items-sorted.ensures.order c.args.self.now.spent (omega (arith, c.items-sorted.ensures.few)) c.args.item c.requires start c.run_start-start.ensures
    c.get.result found _ refl c.ne.result c.ne.ensures c.if-ne.false
