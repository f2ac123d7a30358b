use Rattle.algebra.proofs.CutSizes.{join_size, cut_size, cut_fits, reverse_size, reverse_fits}
use Rattle.algebra.proofs.theorems.sizes_stand.Goals as goal

pub returns : goal.returns
returns c = record { join = join_size; cut = cut_size; room = cut_fits; reverse = reverse_size; limit = reverse_fits }
