use Rattle.std.proofs.Common.{◌≡◌}
use Rattle.std.specs.Iterator.Adapters.{zip_first, zip_second}
use Rattle.std.specs.Slice.Iter.{iter_rest}
use Rattle.normal.specs.Placing.{all_placed, AllLegal}
use Rattle.comparing.specs.Comparisons.{parting}
use Rattle.comparing.proofs.differing.first_parting.Given as goal

abbrev pub invariant-loop-x : goal.invariant-loop-x
invariant-loop-x g l =
    let K = g.K.Kind.model in
    let left = all_placed (iter_rest (zip_first l.x-iterator)) in
    let right = all_placed (iter_rest (zip_second l.x-iterator)) in
    record {
      can_next : (goal.iterator-loop-x g).can_next l.x-iterator;
      is_finite : (goal.iterator-loop-x g).is_finite l.x-iterator;
      left_legal : AllLegal K left;
      right_legal : AllLegal K right;
      same : parting K left right ≡ parting K l.first l.second;
    }
