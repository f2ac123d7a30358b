use Rattle.std.proofs.Common.{rules, ◌++◌, take, ap, ◌∙◌}
use Rattle.std.proofs.lemmas.Result.{MatchResult-weaker}
use Rattle.grammar.specs.Items.{items}
use Rattle.reading.proofs.Whole.{tail_1, tail_2, tail_3, tail_4, tail_split}
use Rattle.reading.proofs.reader.Reader.body.Goals as goal

pub returns-in_err-key : goal.returns-in_err-key
returns-in_err-key c = search (rules, tail_1)

pub returns-in_err-term : goal.returns-in_err-term
returns-in_err-term c = search (rules, tail_2 c.in_ok-key.ensures.over c.in_err-term.ensures)

pub returns-in_err-key-2 : goal.returns-in_err-key-2
returns-in_err-key-2 c = search (rules, tail_3 c.in_ok-key.ensures.over c.in_ok-term.ensures.over c.in_err-key-2.ensures)

pub returns : goal.returns
returns c =
    let key = c.in_ok-key.ensures.over in
    let term = c.in_ok-term.ensures in
    let ending = c.in_ok-key-2.ensures.over in
    MatchResult-weaker c.end.result c.end.ensures
    (λ x h. record {
      term = term.term;
      grammatical = term.grammatical;
      split = tail_split key term.over ending h;
      drafted = term.drafted ∙ ap (λ n. take 1024 (c.args.draft.now ++ items n term.term)) key.passed.moved;
    })
    (λ e h. tail_4 key term.over ending h)
