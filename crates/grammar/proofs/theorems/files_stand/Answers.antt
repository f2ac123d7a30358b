use Rattle.grammar.proofs.Standing.{one_answer, read_exactly, written_back}
use Rattle.grammar.proofs.theorems.files_stand.Goals as goal

pub returns : goal.returns
returns c = record { one = one_answer; exact = read_exactly; back = written_back }
