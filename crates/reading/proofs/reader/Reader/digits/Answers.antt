use Rattle.std.proofs.Common.{◌+◌, drop, refl, ◌∙◌, rules}
use Rattle.std.specs.List.{between}
use Rattle.reading.specs.Passing.{Opens, NoDigit}
use Rattle.reading.proofs.Steps.{at_rest, within_rest, before_end, digits_passed, opens_at}
use Rattle.reading.proofs.reader.Reader.digits.Goals as goal

pub returns : goal.returns
returns c =
    let text = c.args.self.now.text.now in
    let at = c.args.self.now.at in
    let rest = c.rest-rest.ensures in
    let n = c.run_length.result in
    let run = c.run_length.ensures in
    let ends : Opens NoDigit (drop (at + n) text) =
    opens_at NoDigit text (at + n) (λ lt digit.
    let inner = before_end text at _ rest n lt in
    let no = run.ends inner inner in
    let m = no.says.met in
    let e = no.shows ∙ at_rest text at _ rest n in
    search rules) in
    record {
      digits = between at (at + n) text;
      taken = record {
        lexeme = c.since.result;
        is = refl;
        bytes = c.since.ensures.bytes;
        offset = c.since.ensures.offset;
        over = record {
          text = refl;
          section = refl;
          passed = digits_passed text at n (within_rest text at _ rest c.args.self.now.within n run.within) (λ k lt.
              let yes = run.passes k lt in
              let m = yes.says.met in
              let e = yes.shows ∙ at_rest text at _ rest k in
              search rules) ends;
        };
      };
      ends = ends;
    }
