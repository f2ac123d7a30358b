use Rattle.std.proofs.Common.{[], ◌∷◌, ◌++◌, length, sym, ap, ◌∙◌, arith}
use Rattle.grammar.specs.Files.{fields}
use Rattle.nodes.proofs.Lists.{put_both}
use Rattle.writing.proofs.Terms.{others_fewer, opens_sequence, opens_parallel, primitive_text, primitive_behind}
use Rattle.writing.proofs.term.+put_pair_put_term.Goals as goal

pub put_term-put_pair-requires : goal.put_term-put_pair-requires
put_term-put_pair-requires g t c κs within =
    let opens = opens_sequence g.K.Kind.numbers_of c.args.nodes.now c.requires.begun _ c.in-Sequence.is in
    let size = ap length opens.printed in
    let fewer = others_fewer g.K.Kind.numbers_of c.args.nodes.now c.requires.begun in
    (omega (arith, c.decreases), (within, (opens.twice, omega arith)))

pub put_term-put_pair-requires-in-Parallel : goal.put_term-put_pair-requires-in-Parallel
put_term-put_pair-requires-in-Parallel g t c κs within =
    let opens = opens_parallel g.K.Kind.numbers_of c.args.nodes.now c.requires.begun _ c.in-Parallel.is in
    let size = ap length opens.printed in
    let fewer = others_fewer g.K.Kind.numbers_of c.args.nodes.now c.requires.begun in
    (omega (arith, c.decreases), (within, (opens.twice, omega arith)))

pub put_term-returns-in-Primitive : goal.put_term-returns-in-Primitive
put_term-returns-in-Primitive g t c =
    let f = g.K.Kind.numbers_of in
    let row = c.args.nodes.now in
    let text = ap (λ p. 112 ∷ fields p) c.numbers.ensures ∙ sym (primitive_text f row c.requires.begun _ c.in-Primitive.primitive c.in-Primitive.is) in
    record {
      behind = sym (primitive_behind f row c.requires.begun _ c.in-Primitive.primitive c.in-Primitive.is);
      put = put_both c.args.out.now (112 ∷ []) (fields c.numbers.result) c.push-in-Primitive.ensures c.put_fields.ensures ∙ ap (λ w. c.args.out.now ++ w) text;
    }

pub put_term-returns-in-Sequence : goal.put_term-returns-in-Sequence
put_term-returns-in-Sequence g t c =
    let opens = opens_sequence g.K.Kind.numbers_of c.args.nodes.now c.requires.begun _ c.in-Sequence.is in
    record { behind = c.put_pair.ensures.behind ∙ sym opens.beyond; put = c.put_pair.ensures.put ∙ ap (λ w. c.args.out.now ++ w) (sym opens.printed) }

pub put_term-returns-in-Parallel : goal.put_term-returns-in-Parallel
put_term-returns-in-Parallel g t c =
    let opens = opens_parallel g.K.Kind.numbers_of c.args.nodes.now c.requires.begun _ c.in-Parallel.is in
    record { behind = c.put_pair-in-Parallel.ensures.behind ∙ sym opens.beyond; put = c.put_pair-in-Parallel.ensures.put ∙ ap (λ w. c.args.out.now ++ w) (sym opens.printed) }
