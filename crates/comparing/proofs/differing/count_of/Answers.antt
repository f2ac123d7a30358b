use Rattle.std.proofs.Common.{◌≡◌, count_by, sym, ap, ◌∙◌, rules}
use Rattle.algebra.specs.Bag.{count}
use Rattle.algebra.specs.Score.{same_placed}
use Rattle.normal.specs.Placing.{placed_of}
use Rattle.comparing.proofs.Sorts.{count_is}
use Rattle.comparing.proofs.differing.count_of.Goals as goal

pub returns : goal.returns
returns g c =
    let x = placed_of c.args.sought in
    let counted : c.count.result ≡ count_by (λ y. same_placed x (placed_of y)) c.items.result.now = search rules in
    counted ∙ sym (count_is x c.items.result.now) ∙ ap (count same_placed x) c.items.ensures.placed
