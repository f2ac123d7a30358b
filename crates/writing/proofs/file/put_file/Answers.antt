use Rattle.std.proofs.Common.{◌≡◌, ◌++◌, codes, decimal, ap, ◌∙◌, arith}
use Rattle.std.proofs.lemmas.List.{length-append}
use Rattle.algebra.specs.Layout.{view, score_of}
use Rattle.algebra.specs.Score.{primitives, score_length}
use Rattle.grammar.specs.Files.{line, signature, print, print_head, ending}
use Rattle.grammar.specs.Loads.{file_of}
use Rattle.grammar.proofs.Sizes.{length_printed}
use Rattle.nodes.proofs.Lists.{put_long, put_both}
use Rattle.writing.proofs.Terms.{whole_begun}
use Rattle.writing.proofs.file.put_file.Goals as goal

pub put_term-requires-clause-begun : goal.put_term-requires-clause-begun
put_term-requires-clause-begun g c = whole_begun (view g.K.Kind.numbers_of c.args.row.now) c.requires.whole

pub extend-requires-3 : goal.extend-requires-3
extend-requires-3 g c =
    let K = g.K.Kind.model in
    let s = score_of (view g.K.Kind.numbers_of c.args.row.now) in
    let kind = c.push_line.ensures ∙ ap (λ w. c.extend.new.self ++ line (codes "kind=") w) c.name.ensures in
    let ticks = c.push_line-2.ensures ∙ ap (λ w. c.push_line.new.self ++ line (codes "length=") w) (c.format.ensures.text ∙ ap decimal c.requires.measured) in
    let count = c.push_line-3.ensures ∙ ap (λ w. c.push_line-2.new.self ++ line (codes "prims=") w) (c.format-2.ensures.text ∙ ap decimal c.requires.counted) in
    let two = line (codes "length=") (decimal (score_length K s)) ++ line (codes "prims=") (decimal (primitives s)) in
    let heading = print_head K.name (score_length K s) (primitives s) in
    let head : c.push_line-3.new.self ≡ c.args.file.now ++ heading = put_both _ signature (line (codes "kind=") K.name ++ two) c.extend.ensures (put_both _ (line (codes "kind=") K.name) two kind (put_both _ _ _ ticks count)) in
    let tail : c.put_term.new.out ≡ c.push_line-3.new.self ++ (codes "body=" ++ print s) = put_both _ (codes "body=") (print s) c.extend-2.ensures c.put_term.ensures.put in
    let body = codes "body=" ++ print s in
    let long = put_long c.args.file.now (heading ++ body) (put_both _ heading body head tail) in
    omega (arith, long, length-append heading body, length_printed (file_of K s), c.requires.room)

pub returns : goal.returns
returns g c =
    let s = score_of (view g.K.Kind.numbers_of c.args.row.now) in
    let kind = c.push_line.ensures ∙ ap (λ w. c.extend.new.self ++ line (codes "kind=") w) c.name.ensures in
    let ticks = c.push_line-2.ensures ∙ ap (λ w. c.push_line.new.self ++ line (codes "length=") w) (c.format.ensures.text ∙ ap decimal c.requires.measured) in
    let count = c.push_line-3.ensures ∙ ap (λ w. c.push_line-2.new.self ++ line (codes "prims=") w) (c.format-2.ensures.text ∙ ap decimal c.requires.counted) in
    let head = put_both _ signature _ c.extend.ensures (put_both _ (line (codes "kind=") g.K.Kind.model.name) _ kind (put_both _ _ _ ticks count)) in
    let tail = put_both _ (codes "body=") _ c.extend-2.ensures (put_both _ (print s) ending c.put_term.ensures.put c.extend-3.ensures) in
    put_both _ _ _ head tail
