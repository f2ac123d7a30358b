-- Each line of the table computes.
use Rattle.std.proofs.Common.{refl}
use Rattle.kinds.proofs.examples.examples_stand.Goals as goal

pub returns : goal.returns
returns c = record {
  twice = refl;
  whole = refl;
  lines = refl;
  after = refl;
  turned = refl;
  head_forward = refl;
  tail_forward = refl;
  head_backward = refl;
  tail_backward = refl;
  split = refl;
  split_past = refl;
}
