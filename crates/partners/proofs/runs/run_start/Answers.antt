use Rattle.std.proofs.Common.{sym, ap, ◌∙◌, subst, rules}
use Rattle.std.proofs.lemmas.List.Sorted.{IsPartitionPoint-from_clause}
use Rattle.normal.specs.Placing.{placed_of, AllLegal}
use Rattle.comparing.specs.Order.{Sorted}
use Rattle.partners.specs.Runs.{start_of_run}
use Rattle.partners.proofs.Searches.{ahead, partitioned, start_there}
use Rattle.partners.proofs.runs.run_start.Goals as goal

pub returns : goal.returns
returns g c =
    let K = g.K.Kind.model in
    let order = g.met.K.Kind.lawful.order in
    let x = c.args.sought in
    let items = c.items.result.now in
    let legal = subst (AllLegal K) (sym c.items.ensures.placed) c.items.ensures.order.legal in
    let sorted = subst (Sorted K) (sym c.items.ensures.placed) c.items.ensures.order.sorted in
    let point = IsPartitionPoint-from_clause (ahead K order x c.requires) items _ c.partition_point.ensures.partitioned (partitioned K order x c.requires items legal sorted) (λ a r f k. search rules) in
    start_there K order x c.requires items _ legal c.partition_point.ensures.bound point ∙ ap (start_of_run K (placed_of x)) c.items.ensures.placed
