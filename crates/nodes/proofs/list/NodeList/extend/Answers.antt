use Rattle.std.proofs.Common.{◌+◌, ◌++◌, length, take, ap, ◌∙◌, arith}
use Rattle.std.proofs.lemmas.List.{map-append}
use Rattle.algebra.specs.Layout.{seen, view}
use Rattle.nodes.specs.Lists.{Listed}
use Rattle.nodes.proofs.Overlays.{overlaid_front}
use Rattle.nodes.proofs.list.NodeList.extend.Goals as goal

pub returns-clause-items : goal.returns-clause-items
returns-clause-items g c =
    let f = g.K.Kind.numbers_of in
    let room = c.self.inside.room.now in
    let n = c.self.inside.len in
    let m = length c.args.nodes.now in
    ap (λ ns. view f (take (n + m) ns)) c.write_over.ensures ∙ ap (view f) (overlaid_front room n c.args.nodes.now (omega (arith, c.self.invariant)))
    ∙ map-append (seen f) (take n room) c.args.nodes.now ∙ ap (λ (l : Listed). l.items ++ view f c.args.nodes.now) c.self.view_is
