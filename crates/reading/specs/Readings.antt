-- What a headed reading holds.
use Rattle.std.specs.Prelude.{◌≡◌, ℕ, ◌≤◌, List, ◌++◌, length}
use Rattle.grammar.specs.Files.{print_head, GrammaticalHead}
use Rattle.reading.specs.declared.states.HeadedReading.{HeadedReading}

-- a text of at most 16,384 bytes begins with the head that the reading tells
pub record HeadedAs (text : List ℕ) (h : HeadedReading) : Type 0 where
  pub small : length text ≤ 16384
  pub within : GrammaticalHead h.lines.kind.bytes.now h.lines.head.ticks.value h.lines.head.count.value
  pub rest : List ℕ
  pub split : text ≡ print_head h.lines.kind.bytes.now h.lines.head.ticks.value h.lines.head.count.value ++ rest
