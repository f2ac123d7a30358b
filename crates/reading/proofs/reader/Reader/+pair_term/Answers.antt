use Rattle.std.proofs.Common.{rules, ◌++◌, take, sym, ap, ◌∙◌, subst, arith}
use Rattle.std.proofs.lemmas.Result.{MatchResult-weaker}
use Rattle.algebra.specs.Score.{Score.rest, Score.primitive}
use Rattle.grammar.specs.Items.{items}
use Rattle.grammar.specs.Drafts.{with_node}
use Rattle.reading.specs.Languages.{Body}
use Rattle.reading.specs.Passing.{NoDigit, Over}
use Rattle.reading.proofs.Leaves.{only_mark, mark_byte, mark_offset}
use Rattle.reading.proofs.Pairs.{sign_over, pair_taken}
use Rattle.reading.proofs.Scores.{inside_1, inside_2, inside_3, inside_4, rest_over, rest_fault, primitive_over, primitive_fault, pair_over, pair_fault, first_third, no_term}
use Rattle.reading.proofs.reader.Reader.+pair_term.Goals as goal

pub pair-returns-in_err-term : goal.pair-returns-in_err-term
pair-returns-in_err-term t c = search (rules, inside_1 c.args.self.now c.in_err-term.ensures)

pub pair-returns-in_err-node : goal.pair-returns-in_err-node
pair-returns-in_err-node t c = search (rules, inside_2 c.in_ok-term.ensures.over c.in_err-node.ensures)

pub pair-returns-in_err-term-2 : goal.pair-returns-in_err-term-2
pair-returns-in_err-term-2 t c =
    search (rules, inside_3 c.in_ok-term.ensures.over (sign_over c.in_ok-node.ensures).1 c.in_err-term-2.ensures)

pub pair-returns-in_err-mark : goal.pair-returns-in_err-mark
pair-returns-in_err-mark t c =
    search (rules, inside_4 c.in_ok-term.ensures.over (sign_over c.in_ok-node.ensures).1 c.in_ok-term-2.ensures.over c.in_err-mark.ensures)

pub pair-returns : goal.pair-returns
pair-returns t c =
    pair_taken c.args.draft.now c.args.offset c.requires c.in_ok-term.ensures c.in_ok-term-2.ensures (only_mark c.in_ok-mark.ensures) c.push.ensures
    c.in_ok-node.node (c.set_node.ensures ∙ ap (λ n. with_node c.term.new.draft n c.in_ok-node.node) c.len-at.ensures.count) c.in_ok-node.ensures

pub term-returns-in_err-mark : goal.term-returns-in_err-mark
term-returns-in_err-mark t c = search (rules, no_term c.in_err-mark.ensures)

pub term-returns-in_err-rest-in-114 : goal.term-returns-in_err-rest-in-114
term-returns-in_err-rest-in-114 t c =
    let told = c.in_ok-mark.ensures in
    let byte = mark_byte told c.lexeme-mark.ensures in
    search (rules, rest_fault told.taken.over (sym byte ∙ c.in-114.is) c.in_err-rest-in-114.ensures)

pub term-returns-in_err-numbers-in_default : goal.term-returns-in_err-numbers-in_default
term-returns-in_err-numbers-in_default t c =
    let told = c.in_ok-mark.ensures in
    let byte = mark_byte told c.lexeme-mark.ensures in
    let here = first_third told.one (λ e. omega (arith, byte, e)) (λ e. omega (arith, byte, e)) in
    search (rules, primitive_fault told.taken.over here c.in_err-numbers-in_default.ensures)

pub term-returns-in-40 : goal.term-returns-in-40
term-returns-in-40 t c =
    let told = c.in_ok-mark.ensures in
    let byte = mark_byte told c.lexeme-mark.ensures in
    let offset = mark_offset told c.lexeme-mark.ensures in
    let here = sym byte ∙ c.in-40.is in
    MatchResult-weaker c.pair.result c.pair.ensures
    (λ x h. record {
      term = h.term;
      grammatical = h.grammatical;
      over = subst (λ w. Over Body NoDigit w c.args.self.now c.pair.new.self) (sym h.printed) (pair_over told.taken.over here h.over);
      drafted = h.drafted ∙ ap (λ o. take 1024 (c.args.draft.now ++ items o h.term)) offset;
    })
    (λ e h. pair_fault told.taken.over here h)

pub term-returns-in_ok-rest-in-114 : goal.term-returns-in_ok-rest-in-114
term-returns-in_ok-rest-in-114 t c =
    let told = c.in_ok-mark.ensures in
    let byte = mark_byte told c.lexeme-mark.ensures in
    let offset = mark_offset told c.lexeme-mark.ensures in
    let number = c.in_ok-rest-in-114.ensures in
    let d = c.in_ok-rest-in-114.rest.value in
    record {
      term = rest d;
      grammatical = number.small;
      over = rest_over told.taken.over (sym byte ∙ c.in-114.is) d number.over;
      drafted = c.push.ensures ∙ ap (λ o. take 1024 (c.args.draft.now ++ items o (rest d))) offset;
    }

pub term-returns-in_ok-numbers-in_default : goal.term-returns-in_ok-numbers-in_default
term-returns-in_ok-numbers-in_default t c =
    let told = c.in_ok-mark.ensures in
    let byte = mark_byte told c.lexeme-mark.ensures in
    let offset = mark_offset told c.lexeme-mark.ensures in
    let here = first_third told.one (λ e. omega (arith, byte, e)) (λ e. omega (arith, byte, e)) in
    let numbers = c.in_ok-numbers-in_default.ensures in
    let p = c.in_ok-numbers-in_default.numbers in
    record {
      term = primitive p;
      grammatical = numbers.words;
      over = primitive_over told.taken.over here p numbers.over;
      drafted = c.push-in_default.ensures ∙ ap (λ o. take 1024 (c.args.draft.now ++ items o (primitive p))) offset;
    }
