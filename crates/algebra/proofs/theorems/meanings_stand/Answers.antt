use Rattle.algebra.proofs.Meanings.{join_means, take_means, drop_means, reverse_means}
use Rattle.algebra.proofs.theorems.meanings_stand.Goals as goal

pub returns : goal.returns
returns c = record { join = join_means; take = take_means; drop = drop_means; reverse = reverse_means }
