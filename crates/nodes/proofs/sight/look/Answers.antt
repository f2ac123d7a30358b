use Rattle.std.proofs.Common.{ap, ◌∙◌, arith}
use Rattle.std.proofs.lemmas.List.{length-map}
use Rattle.algebra.specs.Layout.{seen, view}
use Rattle.nodes.proofs.Readings.{read_rest, read_primitive, shown}
use Rattle.nodes.proofs.Tables.{sees_sequence, sees_parallel}
use Rattle.nodes.proofs.sight.look.Goals as goal

pub bounds-spans-at : goal.bounds-spans-at
bounds-spans-at g c =
    let f = g.K.Kind.numbers_of in
    let row = c.args.row.now in
    let n = length-map row (seen f) in
    let p = sees_sequence g.K.Kind.model (view f row) c.requires.whole (omega (arith, n, c.requires.small)) c.args.spans.now (omega (arith, n, c.requires.room)) c.args.at c.requires.behind (omega (arith, n, c.requires.inside))
    (shown f row c.requires.whole c.args.at c.requires.inside c.index-row-at.result c.index-row-at.is ∙ ap (seen f) c.in-Sequence.is) in
    omega (arith, n, p.ends, p.right_some, p.middle)

pub bounds-spans-at-in-Parallel : goal.bounds-spans-at-in-Parallel
bounds-spans-at-in-Parallel g c =
    let f = g.K.Kind.numbers_of in
    let row = c.args.row.now in
    let n = length-map row (seen f) in
    let p = sees_parallel g.K.Kind.model (view f row) c.requires.whole (omega (arith, n, c.requires.small)) c.args.spans.now (omega (arith, n, c.requires.room)) c.args.at c.requires.behind (omega (arith, n, c.requires.inside))
    (shown f row c.requires.whole c.args.at c.requires.inside c.index-row-at.result c.index-row-at.is ∙ ap (seen f) c.in-Parallel.is) in
    omega (arith, n, p.ends, p.right_some, p.middle)

pub returns-in-Rest : goal.returns-in-Rest
returns-in-Rest g c = read_rest g.K.Kind.numbers_of c.args.row.now c.requires.whole c.args.at c.requires.inside c.index-row-at.result c.index-row-at.is _ c.in-Rest.is

pub returns-in-Primitive : goal.returns-in-Primitive
returns-in-Primitive g c = read_primitive g.K.Kind.numbers_of c.args.row.now c.requires.whole c.args.at c.requires.inside c.index-row-at.result c.index-row-at.is _ c.in-Primitive.is

pub returns-in-Sequence : goal.returns-in-Sequence
returns-in-Sequence g c =
    let f = g.K.Kind.numbers_of in
    let row = c.args.row.now in
    let n = length-map row (seen f) in
    sees_sequence g.K.Kind.model (view f row) c.requires.whole (omega (arith, n, c.requires.small)) c.args.spans.now (omega (arith, n, c.requires.room)) c.args.at c.requires.behind (omega (arith, n, c.requires.inside))
    (shown f row c.requires.whole c.args.at c.requires.inside c.index-row-at.result c.index-row-at.is ∙ ap (seen f) c.in-Sequence.is)

pub returns-in-Parallel : goal.returns-in-Parallel
returns-in-Parallel g c =
    let f = g.K.Kind.numbers_of in
    let row = c.args.row.now in
    let n = length-map row (seen f) in
    sees_parallel g.K.Kind.model (view f row) c.requires.whole (omega (arith, n, c.requires.small)) c.args.spans.now (omega (arith, n, c.requires.room)) c.args.at c.requires.behind (omega (arith, n, c.requires.inside))
    (shown f row c.requires.whole c.args.at c.requires.inside c.index-row-at.result c.index-row-at.is ∙ ap (seen f) c.in-Parallel.is)
