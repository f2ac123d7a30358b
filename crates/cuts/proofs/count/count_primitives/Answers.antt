use Rattle.std.proofs.Common.{◌∙◌, rules, tests}
use Rattle.std.proofs.lemmas.List.Sums.{length-filter}
use Rattle.std.proofs.lemmas.Iterator.{YieldsList-from_slice}
use Rattle.std.proofs.lemmas.Iterator.Consumers.{YieldsList-from_filter, count_from_yields_List}
use Rattle.cuts.proofs.Counting.{is_primitive, counted}
use Rattle.cuts.proofs.count.count_primitives.Goals as goal

pub returns : goal.returns
returns g c = λ s is.
    let row = c.args.row.now in
    count_from_yields_List c.filter.result _ c.count.ensures.ran (YieldsList-from_filter _ is_primitive (YieldsList-from_slice row cc) c.filter.ensures.closure (λ x b q k. search (rules, tests)))
    ∙ length-filter is_primitive row ∙ counted g.K.Kind.numbers_of row s is
