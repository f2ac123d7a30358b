use Rattle.std.proofs.Common.{◌+◌, ◌<◌, ◌≤◌, length, get_or, take, drop, ap, ◌∙◌, arith}
use Rattle.std.proofs.lemmas.List.{length-map, length-take-le, length-drop}
use Rattle.algebra.specs.Layout.{seen, view, score_at}
use Rattle.nodes.specs.Spans.{no_span}
use Rattle.nodes.specs.Rows.{overlaid}
use Rattle.nodes.proofs.Parts.{length_preorder}
use Rattle.nodes.proofs.Readings.{ends_inside, nodes_there}
use Rattle.nodes.proofs.Tables.{nodes_listed}
use Rattle.nodes.proofs.Writings.{wrote_as, wrote_copy}
use Rattle.nodes.proofs.write.copy_score.Goals as goal

pub some_of-requires : goal.some_of-requires
some_of-requires g c =
    let xs = view g.K.Kind.numbers_of c.args.row.now in
    let n = length-map c.args.row.now (seen g.K.Kind.numbers_of) in
    let i : c.args.at < length xs = omega (arith, n, c.requires.inside) in
    omega (arith, n, nodes_listed g.K.Kind.model xs c.args.spans.now c.requires.spanned c.args.at i, ends_inside xs c.requires.whole c.args.at i)

pub write_over-requires : goal.write_over-requires
write_over-requires g c =
    let xs = view g.K.Kind.numbers_of c.args.row.now in
    let n = length-map c.args.row.now (seen g.K.Kind.numbers_of) in
    let i : c.args.at < length xs = omega (arith, n, c.requires.inside) in
    let s = nodes_listed g.K.Kind.model xs c.args.spans.now c.requires.spanned c.args.at i in
    let within : (get_or c.args.spans.now c.args.at no_span).nodes ≤ length (drop c.args.at c.args.row.now) = omega (arith, length-drop c.args.at c.args.row.now, n, s, ends_inside xs c.requires.whole c.args.at i) in
    omega (arith, ap length c.some_of.ensures, length-take-le (get_or c.args.spans.now c.args.at no_span).nodes (drop c.args.at c.args.row.now) within, s, c.requires.fits, length_preorder (score_at xs c.args.at))

pub returns : goal.returns
returns g c =
    let xs = view g.K.Kind.numbers_of c.args.row.now in
    let n = length-map c.args.row.now (seen g.K.Kind.numbers_of) in
    let i : c.args.at < length xs = omega (arith, n, c.requires.inside) in
    let s = nodes_listed g.K.Kind.model xs c.args.spans.now c.requires.spanned c.args.at i in
    let inside : c.args.at + (get_or c.args.spans.now c.args.at no_span).nodes ≤ length c.args.row.now = omega (arith, n, s, ends_inside xs c.requires.whole c.args.at i) in
    wrote_as _ _ c.args.to _ (ap (λ k. take k (drop c.args.at xs)) s ∙ nodes_there xs c.requires.whole c.args.at i)
    (wrote_copy g.K.Kind.numbers_of c.args.target.now _ c.args.row.now c.args.at _ c.args.to inside (c.write_over.ensures ∙ ap (overlaid c.args.target.now c.args.to) c.some_of.ensures))

pub overflow_add-result : goal.overflow_add-result
overflow_add-result g c =
    let xs = view g.K.Kind.numbers_of c.args.row.now in
    let n = length-map c.args.row.now (seen g.K.Kind.numbers_of) in
    let i : c.args.at < length xs = omega (arith, n, c.requires.inside) in
    let s = nodes_listed g.K.Kind.model xs c.args.spans.now c.requires.spanned c.args.at i in
    omega (arith, s, c.requires.fits, length_preorder (score_at xs c.args.at))
