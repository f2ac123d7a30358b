use Rattle.std.proofs.Common.{◌++◌, length, sym, ap, ◌∙◌, arith}
use Rattle.std.proofs.lemmas.List.{length-map}
use Rattle.algebra.specs.Layout.{preorder}
use Rattle.algebra.specs.Score.{nodes, primitives, score_length}
use Rattle.grammar.specs.Loads.{file_bytes}
use Rattle.normal.specs.Placing.{placed_of}
use Rattle.normal.specs.Writing.{lines_of}
use Rattle.writing.specs.Writes.{written_answer, written_over}
use Rattle.normal_file.proofs.Forms.{form_length, form_primitives, form_nodes, row_score, row_whole, row_small, row_behind}
use Rattle.normal_file.proofs.write.write_normal.Goals as goal

pub write_lines-requires : goal.write_lines-requires
write_lines-requires g c =
    let K = g.K.Kind.model in
    let meaning = c.list_after-meaning.ensures in
    let lines = ap (lines_of K c.list_after-meaning.result.length) c.items-placed.ensures.placed ∙ meaning.lines in
    let small = form_nodes K c.args.score.now c.args.model.now meaning.limited in
    record { legal = c.items-placed.ensures.legal; room = omega (arith, c.requires, ap nodes lines, small) }

pub write_told-requires : goal.write_told-requires
write_told-requires g c =
    let K = g.K.Kind.model in
    let f = g.K.Kind.numbers_of in
    let s = c.args.score.now in
    let model = c.args.model.now in
    let meaning = c.list_after-meaning.ensures in
    let lines = ap (lines_of K c.list_after-meaning.result.length) c.items-placed.ensures.placed ∙ meaning.lines in
    let put = c.as_slice.ensures.nodes ∙ c.write_lines.ensures.items ∙ ap (λ t. c.args.form.now.items ++ preorder t) lines in
    let is = row_behind f c.as_slice.result.now c.args.form.now.items _ c.len-start.result put c.len-start.ensures.count in
    let score = row_score K s model f _ is in
    let count = sym (length-map c.items-placed.result.now placed_of) ∙ ap length c.items-placed.ensures.placed ∙ meaning.count in
    record {
      whole = row_whole K s model f _ is;
      measured = meaning.length ∙ sym (form_length K s model) ∙ ap (score_length K) (sym score);
      counted = count ∙ sym (form_primitives K s model) ∙ ap primitives (sym score);
      small = row_small K s model f _ is g.met.K.Kind.lawful meaning.limited;
    }

pub returns : goal.returns
returns g c =
    let K = g.K.Kind.model in
    let f = g.K.Kind.numbers_of in
    let meaning = c.list_after-meaning.ensures in
    let lines = ap (lines_of K c.list_after-meaning.result.length) c.items-placed.ensures.placed ∙ meaning.lines in
    let put = c.as_slice.ensures.nodes ∙ c.write_lines.ensures.items ∙ ap (λ t. c.args.form.now.items ++ preorder t) lines in
    let is = row_behind f c.as_slice.result.now c.args.form.now.items _ c.len-start.result put c.len-start.ensures.count in
    let score = row_score K c.args.score.now c.args.model.now f _ is in
    record {
      answer = c.write_told.ensures.answer ∙ ap (λ s. written_answer (file_bytes K s) (length c.args.buffer.now)) score;
      after = c.write_told.ensures.after ∙ ap (λ s. written_over c.write_told.result (file_bytes K s) c.args.buffer.now) score;
      form = c.write_lines.ensures.items ∙ ap (λ t. c.args.form.now.items ++ preorder t) lines;
      room = c.write_lines.ensures.room;
    }
