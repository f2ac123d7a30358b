-- What the readers of lines hand out.
use Rattle.std.specs.Prelude.{◌≡◌, ℕ, ◌+◌, ◌≤◌, List, ◌++◌, length, drop, codes, decimal}
use Rattle.algebra.specs.Kind.{Name}
use Rattle.grammar.specs.declared.head.Figure.{Figure}
use Rattle.grammar.specs.Files.{signature, line, print_head, GrammaticalHead, kind_offset}
use Rattle.reading.specs.declared.reader.Reader.{Reader}
use Rattle.reading.specs.declared.reader.head.Lines.{Lines}
use Rattle.reading.specs.declared.word.Lexeme.{Lexeme}
use Rattle.reading.specs.Languages.{KindLine, NumberLine, Head}
use Rattle.reading.specs.Passing.{Any, Sure, Over}

-- a line with a kind's name
pub record KindLineTaken (before after : Reader) (l : Lexeme) : Type 0 where
  pub offset : l.offset ≡ before.at + 5
  pub name : Name l.bytes.now
  pub over : Over KindLine Any (line (codes "kind=") l.bytes.now) before after

-- a line with a number up to a limit
pub record NumberLineTaken (key : List ℕ) (limit : ℕ) (before after : Reader) (f : Figure) : Type 0 where
  pub offset : f.offset ≡ before.at + length key
  pub small : f.value ≤ limit
  pub over : Over (NumberLine key limit) Any (line key (decimal f.value)) before after

-- a text of at most 16,384 bytes begins with the lines before the body, which say this, and with no others
pub record LinesTaken (text : List ℕ) (h : Lines) : Type 0 where
  pub small : length text ≤ 16384
  pub within : GrammaticalHead h.kind.bytes.now h.head.ticks.value h.head.count.value
  pub kind_at : h.kind.offset ≡ kind_offset
  pub ticks_at : h.head.ticks.offset ≡ length (signature ++ (line (codes "kind=") h.kind.bytes.now ++ codes "length="))
  pub count_at : h.head.count.offset ≡ length (signature ++ (line (codes "kind=") h.kind.bytes.now ++ (line (codes "length=") (decimal h.head.ticks.value) ++ codes "prims=")))
  pub end_at : h.end ≡ length (print_head h.kind.bytes.now h.head.ticks.value h.head.count.value)
  pub inside : h.end ≤ length text
  pub split : text ≡ print_head h.kind.bytes.now h.head.ticks.value h.head.count.value ++ drop h.end text
  pub sure : Sure Head Any (print_head h.kind.bytes.now h.head.ticks.value h.head.count.value) (drop h.end text)
