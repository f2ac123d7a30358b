use Rattle.std.proofs.Common.{◌≡◌, length, take}
use Rattle.std.specs.Slice.Iter.{iter_rest}
use Rattle.std.specs.Iterator.Adapters.{rev_source, enumerate_source, enumerate_count}
use Rattle.grammar.specs.Items.{nodes_of}
use Rattle.nodes.specs.Spans.{Spanned}
use Rattle.loading.proofs.measuring.measure.Given as goal

abbrev pub invariant-loop-at : goal.invariant-loop-at
invariant-loop-at g l =
    let left = iter_rest (enumerate_source (rev_source l.at-iterator)) in
    (length l.spans ≡ 1023) × (enumerate_count (rev_source l.at-iterator) ≡ 0) × (left ≡ take (length left) l.items)
    × Spanned g.K.Kind.model (nodes_of l.items) l.spans (length left)
