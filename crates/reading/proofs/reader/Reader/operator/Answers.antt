use Rattle.std.proofs.Common.{rules, [], ◌∷◌, refl, ◌∙◌, inl, ⊎_elim}
use Rattle.reading.proofs.Steps.{no_mark, has_first}
use Rattle.reading.proofs.Leaves.{mark_byte, sign_cases, same_sign}
use Rattle.reading.proofs.reader.Reader.operator.Goals as goal

pub returns-in_err-mark : goal.returns-in_err-mark
returns-in_err-mark c = search (rules, no_mark _ 43 (has_first 43 (124 ∷ [])) c.in_err-mark.ensures)

pub returns-else-mark-eq124 : goal.returns-else-mark-eq124
returns-else-mark-eq124 c =
    let told = c.in_ok-mark.ensures in
    let byte = mark_byte told c.lexeme-mark.ensures in
    ⊎_elim (λ e. inl (refl, same_sign 43 e told.taken.over)) (λ e. absurd (c.if-mark-eq124.false (byte ∙ e))) (sign_cases told.one)
