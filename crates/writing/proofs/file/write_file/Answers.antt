use Rattle.std.proofs.Common.{◌≤◌, length, sym, ap, ◌∙◌, subst, arith}
use Rattle.algebra.specs.Layout.{preorder, score_of}
use Rattle.algebra.specs.Score.{primitives, score_length}
use Rattle.grammar.specs.Loads.{file_bytes}
use Rattle.nodes.proofs.Shapes.{score_preorder}
use Rattle.writing.specs.Writes.{written_answer, written_over}
use Rattle.writing.proofs.Sizes.{length_bytes}
use Rattle.writing.proofs.file.write_file.Goals as goal

pub write_told-requires : goal.write_told-requires
write_told-requires g c =
    let K = g.K.Kind.model in
    let s = c.args.score.now in
    let limited = c.length.ensures.limited in
    let is = ap score_of c.nodes.ensures.nodes ∙ score_preorder s in
    record {
      whole = c.nodes.ensures.nodes ∙ ap preorder (sym is);
      measured = c.length.ensures.length ∙ ap (score_length K) (sym is);
      counted = c.requires ∙ ap primitives (sym is);
      small = subst (λ t. length (file_bytes K t) ≤ 16384) (sym is) (length_bytes K g.met.K.Kind.lawful s limited.legal limited.small limited.few (omega (arith, limited.short)));
    }

pub returns : goal.returns
returns g c =
    let K = g.K.Kind.model in
    let is = ap score_of c.nodes.ensures.nodes ∙ score_preorder c.args.score.now in
    record {
      answer = c.write_told.ensures.answer ∙ ap (λ s. written_answer (file_bytes K s) (length c.args.buffer.now)) is;
      after = c.write_told.ensures.after ∙ ap (λ s. written_over c.write_told.result (file_bytes K s) c.args.buffer.now) is;
    }
