use Rattle.std.proofs.Common.{rules, codes, sym, refl, ◌∙◌, subst, arith}
use Rattle.algebra.specs.Kind.{Name}
use Rattle.grammar.specs.Files.{line}
use Rattle.reading.specs.Languages.{KindLine}
use Rattle.reading.specs.Passing.{Any, NoLetter, Over}
use Rattle.reading.proofs.Steps.{some_name, handed_bytes, handed_offset}
use Rattle.reading.proofs.Lines.{line_key, line_word, line_end, line_over}
use Rattle.reading.proofs.reader.Reader.kind_line.Goals as goal

newline : NoLetter 10
newline d = omega arith

pub returns-in_err-key : goal.returns-in_err-key
returns-in_err-key c =
    search (rules, line_key _ Name NoLetter newline _ some_name c.args.self.now c.in_err-key.ensures)

pub returns-in_err-name : goal.returns-in_err-name
returns-in_err-name c =
    search (rules, line_word _ Name NoLetter newline _ some_name c.in_ok-key.ensures.over c.in_err-name.ensures)

pub returns-in_err-key-2 : goal.returns-in_err-key-2
returns-in_err-key-2 c =
    search (rules, line_end _ Name NoLetter newline _ some_name c.in_ok-key.ensures.over c.in_ok-name.ensures.1.over c.in_err-key-2.ensures)

pub returns : goal.returns
returns c =
    let key = c.in_ok-key.ensures.over in
    let name = c.in_ok-name.ensures.1 in
    let bytes = handed_bytes name (λ l. refl) c.lexeme.ensures in
    record {
      offset = handed_offset name (λ l. refl) c.lexeme.ensures ∙ key.passed.moved;
      name = subst Name (sym bytes) name.over.passed.is;
      over =
          subst (λ w. Over KindLine Any (line (codes "kind=") w) c.args.self.now c.key-2.new.self) (sym bytes)
          (line_over _ Name NoLetter newline _ some_name key name.over c.in_ok-key-2.ensures.over);
    }
