use Rattle.algebra.proofs.Compare.{compare_says}
use Rattle.algebra.proofs.Differing.{compare_same}
use Rattle.algebra.proofs.theorems.comparing_stands.Goals as goal

pub returns : goal.returns
returns c = record { says = compare_says; same = compare_same }
