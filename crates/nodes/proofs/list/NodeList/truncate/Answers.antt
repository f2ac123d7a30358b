use Rattle.std.proofs.Common.{◌≤◌, length, take, sym, ap, ◌∙◌, arith}
use Rattle.std.proofs.lemmas.List.{take-map, take-take, length-map, length-take-le}
use Rattle.algebra.specs.Layout.{seen, view}
use Rattle.nodes.specs.Lists.{Listed}
use Rattle.nodes.proofs.list.NodeList.truncate.Goals as goal

pub returns-clause-items : goal.returns-clause-items
returns-clause-items g c =
    let f = g.K.Kind.numbers_of in
    let room = c.self.inside.room.now in
    let n = c.self.inside.len in
    let long = ap (λ (l : Listed). length l.items) c.self.view_is in
    let within : c.args.count ≤ n = omega (arith, c.requires, long, length-map (take n room) (seen f), length-take-le n room c.self.invariant) in
    ap (view f) (sym (take-take c.args.count n room within)) ∙ sym (take-map (seen f) c.args.count (take n room)) ∙ ap (λ (l : Listed). take c.args.count l.items) c.self.view_is

pub invariant_of-self : goal.invariant_of-self
invariant_of-self g c =
    let f = g.K.Kind.numbers_of in
    let room = c.self.inside.room.now in
    let n = c.self.inside.len in
    let long = ap (λ (l : Listed). length l.items) c.self.view_is in
    omega (arith, c.requires, long, length-map (take n room) (seen f), length-take-le n room c.self.invariant)
