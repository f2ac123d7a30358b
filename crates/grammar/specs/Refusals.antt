-- Why a text is not read as a file of a kind: refusals 1 to 5, of which the least number that fits is given.
use Rattle.std.specs.Prelude.{◌≡◌, ℕ, ◌<◌, ◌≤◌, List, ◌++◌, length, ◌≢◌}
use Rattle.refusals.specs.declared.refusal.Refusal.{Refusal}
use Rattle.refusals.specs.declared.refusal.Refusal.TheVariants.{Oversize, Misfit, OtherKind}
use Rattle.refusals.specs.declared.refusal.Section.TheVariants as section
use Rattle.grammar.specs.Files.{signature, print_head, GrammaticalHead, IsFile, FirstMisfit, kind_offset}

-- The text begins with the first line.
abbrev pub Signed : List ℕ → Type 0
Signed text = (rest : List ℕ) × (text ≡ signature ++ rest)

-- The text begins with the lines to `prims=`.
pub record Headed (text : List ℕ) : Type 0 where
  pub kind : List ℕ
  pub ticks : ℕ
  pub count : ℕ
  pub rest : List ℕ
  pub within : GrammaticalHead kind ticks count
  pub split : text ≡ print_head kind ticks count ++ rest

-- Why a text has no head: it has more than 16,384 bytes, or the grammar is broken in the first line or in the lines to `prims=`.
pub data HeadRefused (text : List ℕ) : Refusal → Type 0 where
  oversize : 16384 < length text → HeadRefused text Oversize
  unsigned : (offset : ℕ) → length text ≤ 16384 → FirstMisfit IsFile text offset → (Signed text → ⊥) → HeadRefused text (Misfit section.Signature offset)
  unheaded : (offset : ℕ) → length text ≤ 16384 → FirstMisfit IsFile text offset → Signed text → (Headed text → ⊥) → HeadRefused text (Misfit section.Head offset)

-- Why a text is not read as a file of a kind: it has no head, its head names another kind, or the grammar is broken behind the head.
pub data Refused (kind text : List ℕ) : Refusal → Type 0 where
  headless : {e : Refusal} → HeadRefused text e → Refused kind text e
  other_kind : length text ≤ 16384 → (h : Headed text) → (h.kind ≢ kind) → Refused kind text (OtherKind kind_offset)
  misfit : (offset : ℕ) → length text ≤ 16384 → (h : Headed text) → h.kind ≡ kind → FirstMisfit IsFile text offset → Refused kind text (Misfit section.Body offset)
