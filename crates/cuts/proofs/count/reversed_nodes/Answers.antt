use Rattle.std.proofs.Common.{◌≡◌, ℕ, ◌∙◌, ap, arith, rules, tests}
use Rattle.std.specs.List.{count_by, range_with_len}
use Rattle.std.proofs.lemmas.List.Sums.{length-filter}
use Rattle.std.proofs.lemmas.Iterator.{YieldsList-from_range}
use Rattle.std.proofs.lemmas.Iterator.Consumers.{YieldsList-from_filter, count_from_yields_List}
use Rattle.algebra.specs.Cuts.{uneven}
use Rattle.algebra.proofs.CutSizes.{reverse_size}
use Rattle.nodes.specs.Scores.{part_at}
use Rattle.cuts.specs.Padding.{uneven_pair}
use Rattle.cuts.proofs.Counting.{uneven_counted}
use Rattle.cuts.proofs.count.reversed_nodes.Goals as goal

pub returns : goal.returns
returns g c =
    let K = g.K.Kind.model in
    let s = c.args.score.now in
    let n = c.count-count.result in
    let test = λ (at : ℕ). uneven_pair K (part_at s at) in
    let found : c.count-uneven.result ≡ uneven K s =
    count_from_yields_List c.filter.result _ c.count-uneven.ensures.ran (YieldsList-from_filter _ test (YieldsList-from_range 0 n n (cc) (omega arith)) c.filter.ensures.closure (λ x b q k. search (rules, tests)))
    ∙ length-filter test (range_with_len 0 n) ∙ ap (λ m. count_by test (range_with_len 0 m)) c.count-count.ensures.nodes ∙ uneven_counted K s in
    omega (arith, found, c.count-count.ensures.nodes, (reverse_size K s).1)
