use Rattle.algebra.proofs.Complete.{normal_reached, after_reached, self_after, after_decides, both_after_decide}
use Rattle.algebra.proofs.ByPlaced.{after_by_placed, after_other_length}
use Rattle.algebra.proofs.Sizes.{normal_size, normal_fits}
use Rattle.algebra.proofs.theorems.normal_forms_stand.Goals as goal

pub returns : goal.returns
returns c = record {
  reached = normal_reached;
  after = after_reached;
  itself = self_after;
  decides = after_decides;
  both = both_after_decide;
  size = normal_size;
  fits = normal_fits;
  placed = after_by_placed;
  apart = after_other_length;
}
