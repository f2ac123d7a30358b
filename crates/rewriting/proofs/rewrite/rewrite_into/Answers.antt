use Rattle.std.proofs.Common.{◌+◌, ◌-◌, ◌++◌, Err, length, take, drop, rules, sym, ap, ◌∙◌, arith}
use Rattle.std.proofs.lemmas.List.{length-map, length-take, length-take-le, length-drop}
use Rattle.std.proofs.lemmas.Result.{err_from_is_err_and}
use Rattle.algebra.specs.Layout.{seen, view, preorder}
use Rattle.nodes.proofs.Lists.{put_long}
use Rattle.nodes.proofs.Parts.{length_preorder}
use Rattle.rewriting.specs.Plans.{plan_score}
use Rattle.rewriting.proofs.Steps.{nodes_long}
use Rattle.rewriting.proofs.Rewriting.{front, back, no_fit, too_many, put}
use Rattle.rewriting.proofs.rewrite.rewrite_into.Goals as goal

pub returns-in_err-plan : goal.returns-in_err-plan
returns-in_err-plan g c =
    let (e, is, from) = err_from_is_err_and c.from_residual.result c.from_residual.ensures.1 in
    no_fit g.K.Kind.model c.args.step.rule c.args.step.way c.args.step.split c.args.score.now c.part-part.result c.args.node c.requires c.part-part.ensures.part c.plan.result c.plan.ensures c.args.out.now
    c.in_err-plan.field-0.0 c.in_err-plan.ensures.value c.from_residual.result (is ∙ ap Err from)

pub returns-then-spare-total : goal.returns-then-spare-total
returns-then-spare-total g c =
    too_many g.K.Kind.model c.args.step.rule c.args.step.way c.args.step.split c.args.score.now c.part-part.result c.args.node c.requires c.part-part.ensures.part c.plan.result c.plan.ensures c.args.out.now
    c.in_ok-plan.plan c.in_ok-plan.ensures.value _ (omega arith) (omega arith)

pub slice_bounds-extend-end : goal.slice_bounds-extend-end
slice_bounds-extend-end g c = let long = nodes_long g.K.Kind.numbers_of c.nodes-nodes.result.now c.args.score.now c.nodes-nodes.ensures.nodes in sym (length-take-le c.args.node c.nodes-nodes.result.now (omega arith))

pub offset_bounds-nodes-after : goal.offset_bounds-nodes-after
offset_bounds-nodes-after g c = let long = nodes_long g.K.Kind.numbers_of c.nodes-nodes.result.now c.args.score.now c.nodes-nodes.ensures.nodes in omega arith

pub slice_bounds-extend-count : goal.slice_bounds-extend-count
slice_bounds-extend-count g c = let long = nodes_long g.K.Kind.numbers_of c.nodes-nodes.result.now c.args.score.now c.nodes-nodes.ensures.nodes in omega arith

pub slice_bounds-extend-start : goal.slice_bounds-extend-start
slice_bounds-extend-start g c = let long = nodes_long g.K.Kind.numbers_of c.nodes-nodes.result.now c.args.score.now c.nodes-nodes.ensures.nodes in search rules

pub extend-requires-2 : goal.extend-requires-2
extend-requires-2 g c =
    let row = c.nodes-nodes.result.now in
    let long = nodes_long g.K.Kind.numbers_of row c.args.score.now c.nodes-nodes.ensures.nodes in
    let start = put_long c.args.out.now.items (view g.K.Kind.numbers_of (take c.args.node row)) c.extend.ensures.items in
    let middle = put_long c.extend.new.self.items (preorder (plan_score c.in_ok-plan.plan)) c.write_into.ensures.items in
    let after = c.args.node + c.count.result in
    omega (
      arith,
      length-map (take c.args.node row) (seen g.K.Kind.numbers_of),
      length-take-le c.args.node row (omega arith),
      length_preorder (plan_score c.in_ok-plan.plan),
      length-take (length row - after) (drop after row),
      length-drop after row,
    )

pub returns : goal.returns
returns g c =
    let f = g.K.Kind.numbers_of in
    let s = c.args.score.now in
    let row = c.nodes-nodes.result.now in
    let is = c.nodes-nodes.ensures.nodes in
    put g.K.Kind.model c.args.step.rule c.args.step.way c.args.step.split s c.part-part.result c.args.node c.requires c.part-part.ensures.part c.plan.result c.plan.ensures c.args.out.now
    c.in_ok-plan.plan c.in_ok-plan.ensures.value (c.args.node + c.count-2.result + c.count-3.result - (c.args.node + c.count.result)) (omega arith) (omega arith)
    c.extend.new.self c.write_into.new.out c.extend-2.new.self (c.extend.ensures.items ∙ ap (λ us. c.args.out.now.items ++ us) (front f row s is c.args.node)) c.write_into.ensures.items
    (c.extend-2.ensures.items ∙ ap (λ us. c.write_into.new.out.items ++ us) (back f row s is (c.args.node + c.count.result) ∙ ap (λ n. drop (c.args.node + n) (preorder s)) c.count.ensures.nodes))
    (c.extend-2.ensures.room ∙ c.write_into.ensures.room ∙ c.extend.ensures.room)
