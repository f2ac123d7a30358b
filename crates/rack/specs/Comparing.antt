-- What comparing two places answers.
use Rattle.std.specs.Prelude.{◌≡◌, ℕ, ◌↔◌, List, [], ◌∷◌, Ok, Result}
use Rattle.algebra.specs.Kind.{KindModel}
use Rattle.algebra.specs.Score.{Score}
use Rattle.algebra.specs.Rules.{Chain}
use Rattle.algebra.specs.Compare.{Answer, Says, compared}
use Rattle.refusals.specs.declared.refusal.Refusal.{Refusal}
use Rattle.refusals.specs.Checks.{Check, all, followed}
use Rattle.comparing.specs.declared.comparison.Comparison.{Comparison}
use Rattle.comparing.specs.Comparisons.{meant, said}
use Rattle.normal_file.specs.Bytes.{normal_bytes}
use Rattle.writing.specs.Writes.{written_answer}
use Rattle.rack.specs.Shelves.{Shelf, score_held}
use Rattle.rack.specs.Checks.{known, holding}

-- Two places that hold scores: 21 for the first and the second, 22 for the first and the second.
abbrev pub both_holding : Shelf → ℕ → ℕ → Check
both_holding shelf a b = all (known shelf a ∷ known shelf b ∷ holding shelf a ∷ holding shelf b ∷ [])

-- Compare: 21, 22, and else what the algebra answers of the two scores.
abbrev pub compare_answer : KindModel → Shelf → ℕ → ℕ → Result Comparison Refusal
compare_answer K shelf a b = followed (both_holding shelf a b) (Ok (said (compared K (score_held shelf a) (score_held shelf b))))

-- An answer of comparing two scores says what is so of them, and no other answer would.
abbrev pub OnlyAnswer : KindModel → Score → Score → Comparison → Type 0
OnlyAnswer K s t answer = (a : Answer) → Says K s t a ↔ (a ≡ meant answer)

-- The bytes of the normal form of one place's score after another's.
abbrev pub normal_bytes_at : KindModel → Shelf → ℕ → ℕ → List ℕ
normal_bytes_at K shelf p model = normal_bytes K (score_held shelf p) (score_held shelf model)

-- Write normal: 21 and 22 for both places, and 28 with the bytes needed.
abbrev pub write_normal_answer : KindModel → Shelf → ℕ → ℕ → ℕ → Result ℕ Refusal
write_normal_answer K shelf p model room = followed (both_holding shelf p model) (written_answer (normal_bytes_at K shelf p model) room)

-- The normal file after a model is the model's own exactly where a chain leads from the score to the model.
abbrev pub BytesDecide : KindModel → Score → Score → Type 0
BytesDecide K s model = (normal_bytes K s model ≡ normal_bytes K model model) ↔ Chain K s model
