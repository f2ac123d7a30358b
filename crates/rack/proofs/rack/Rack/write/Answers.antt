use Rattle.std.proofs.Common.{ℕ, List, IfOk, length, take, sym, ap, subst, arith, refl}
use Rattle.algebra.specs.Score.{Score}
use Rattle.building.specs.Rows.{score_in}
use Rattle.nodes.specs.Standing.{standing_score}
use Rattle.rack.specs.Written.{FileOf}
use Rattle.rack.proofs.Shelves.{row_holdable}
use Rattle.rack.proofs.Writing.{file_written}
use Rattle.writing.proofs.Sizes.{length_bytes}
use Rattle.rack.proofs.rack.Rack.write.Goals as goal

pub write_told-requires-clause-small : goal.write_told-requires-clause-small
write_told-requires-clause-small g c =
    let K = g.K.Kind.model in
    let f = g.K.Kind.numbers_of in
    let held = c.in_ok-held.held in
    let laws = g.met.K.Kind.lawful in
    let h = row_holdable K laws.lengths f g.met.K.Kind.legal held.nodes.now refl held.fits in
    length_bytes K laws (standing_score f held.nodes.now) h.legal h.fits.few_nodes h.fits.few_primitives (omega (arith, h.fits.short))

pub returns-clause-file : goal.returns-clause-file
returns-clause-file g c =
    let K = g.K.Kind.model in
    let f = g.K.Kind.numbers_of in
    let laws = g.met.K.Kind.lawful in
    let held = c.in_ok-held.held in
    let r = c.write_told.result in
    let t = standing_score f held.nodes.now in
    let whole = row_holdable K laws.lengths f g.met.K.Kind.legal held.nodes.now refl held.fits in
    let is = sym (ap score_in c.in_ok-held.ensures.held) in
    let Here : Score → List ℕ → Type 0 = λ u ys. IfOk r (λ n. FileOf K u (take n ys)) in
    subst (λ u. Here u c.write_told.new.buffer) is (subst (Here t) (sym c.write_told.ensures.after) (file_written K laws t whole r (length c.args.buffer.now) c.args.buffer.now c.write_told.ensures.answer))
