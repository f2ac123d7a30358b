use Rattle.std.proofs.Common.{◌-◌, length, drop, sym, ap, ◌∙◌, arith}
use Rattle.std.proofs.lemmas.List.{length-map, length-take, length-drop}
use Rattle.algebra.specs.Layout.{seen}
use Rattle.nodes.specs.Lists.{Listed}
use Rattle.building.specs.declared.change.Change.TheVariants.{Reverse, Take, Drop, Normalise}
use Rattle.building.specs.Changes.{changed, changed_length}
use Rattle.building.proofs.Changing.{changed_nodes, length_changed, ChangePut, change_put, put_small}
use Rattle.building.proofs.Putting.{put_behind, kept_laid}
use Rattle.building.proofs.making.change.Goals as goal
use Rattle.building.proofs.making.change.Goals.{in-Reverse+else-count-gt-MOST_NODES, in-Take, in-Drop, in-Normalise}

pub take_into-requires : goal.take_into-requires
take_into-requires g c = grind (arith, changed_nodes g.K.Kind.model c.args.score.now (Take c.in-Take.ticks) (λ e. cc) c.length.ensures.limited)

pub drop_into-requires : goal.drop_into-requires
drop_into-requires g c = grind (arith, changed_nodes g.K.Kind.model c.args.score.now (Drop c.in-Drop.ticks) (λ e. cc) c.length.ensures.limited)

pub normalise_into-requires : goal.normalise_into-requires
normalise_into-requires g c = grind (arith, changed_nodes g.K.Kind.model c.args.score.now Normalise (λ e. cc) c.length.ensures.limited)

pub size_within-size-requires : goal.size_within-size-requires
size_within-size-requires g c =
    let K = g.K.Kind.model in
    let s = c.args.score.now in
    let limited = c.length.ensures.limited in
    let put : ChangePut K s c.args.change c.args.out.now c.match-change.out =
    elim c.match-change.branch [
      | in-Reverse+else-count-gt-MOST_NODES w ↦ change_put K s c.args.change Reverse w.in-Reverse.is (omega (arith, w.reversed_nodes-count.ensures, w.if-count-gt-MOST_NODES.false)) (ap (λ (l : Listed). l.items) w.out-is ∙ w.reverse_into.ensures.items) (ap (λ (l : Listed). l.room) w.out-is ∙ w.reverse_into.ensures.room)
      | in-Take w ↦ change_put K s c.args.change (Take w.in-Take.ticks) w.in-Take.is (changed_nodes K s (Take w.in-Take.ticks) (λ e. cc) limited) (ap (λ (l : Listed). l.items) w.out-is ∙ w.take_into.ensures.items) (ap (λ (l : Listed). l.room) w.out-is ∙ w.take_into.ensures.room)
      | in-Drop w ↦ change_put K s c.args.change (Drop w.in-Drop.ticks) w.in-Drop.is (changed_nodes K s (Drop w.in-Drop.ticks) (λ e. cc) limited) (ap (λ (l : Listed). l.items) w.out-is ∙ w.drop_into.ensures.items) (ap (λ (l : Listed). l.room) w.out-is ∙ w.drop_into.ensures.room)
      | in-Normalise w ↦ change_put K s c.args.change Normalise w.in-Normalise.is (changed_nodes K s Normalise (λ e. cc) limited) (ap (λ (l : Listed). l.items) w.out-is ∙ w.normalise_into.ensures.items) (ap (λ (l : Listed). l.room) w.out-is ∙ w.normalise_into.ensures.room)
    ] in
    let row = c.as_slice.result.now in
    let rest = drop c.len-before.result row in
    omega (
      arith,
      put_small K s c.args.change put,
      c.len-before.ensures.count,
      ap length c.as_slice.ensures.nodes,
      length-map row (seen g.K.Kind.numbers_of),
      length-drop c.len-before.result row,
      length-take (length row - c.len-before.result) rest,
    )

pub returns : goal.returns
returns g c =
    let K = g.K.Kind.model in
    let s = c.args.score.now in
    let limited = c.length.ensures.limited in
    let before = c.len-before.ensures.count in
    let put : ChangePut K s c.args.change c.args.out.now c.match-change.out =
    elim c.match-change.branch [
      | in-Reverse+else-count-gt-MOST_NODES w ↦ change_put K s c.args.change Reverse w.in-Reverse.is (omega (arith, w.reversed_nodes-count.ensures, w.if-count-gt-MOST_NODES.false)) (ap (λ (l : Listed). l.items) w.out-is ∙ w.reverse_into.ensures.items) (ap (λ (l : Listed). l.room) w.out-is ∙ w.reverse_into.ensures.room)
      | in-Take w ↦ change_put K s c.args.change (Take w.in-Take.ticks) w.in-Take.is (changed_nodes K s (Take w.in-Take.ticks) (λ e. cc) limited) (ap (λ (l : Listed). l.items) w.out-is ∙ w.take_into.ensures.items) (ap (λ (l : Listed). l.room) w.out-is ∙ w.take_into.ensures.room)
      | in-Drop w ↦ change_put K s c.args.change (Drop w.in-Drop.ticks) w.in-Drop.is (changed_nodes K s (Drop w.in-Drop.ticks) (λ e. cc) limited) (ap (λ (l : Listed). l.items) w.out-is ∙ w.drop_into.ensures.items) (ap (λ (l : Listed). l.room) w.out-is ∙ w.drop_into.ensures.room)
      | in-Normalise w ↦ change_put K s c.args.change Normalise w.in-Normalise.is (changed_nodes K s Normalise (λ e. cc) limited) (ap (λ (l : Listed). l.items) w.out-is ∙ w.normalise_into.ensures.items) (ap (λ (l : Listed). l.room) w.out-is ∙ w.normalise_into.ensures.room)
    ] in
    record {
      answer = c.size_within-size.ensures (changed K c.args.change s) (put_behind c.args.out.now c.match-change.out (changed K c.args.change s) _ before put.row g.K.Kind.numbers_of c.as_slice.result.now c.as_slice.ensures.nodes)
          (c.length-length.ensures ∙ ap (changed_length c.args.change) c.length.ensures.length ∙ sym (length_changed K s g.met.K.Kind.lawful limited.legal c.args.change));
      after = c.undo_refused.ensures ∙ kept_laid c.args.out.now c.match-change.out (changed K c.args.change s) _ before put.row c.size_within-size.result put.room;
    }
