use Rattle.std.proofs.Common.{◌≡◌, take}
use Rattle.algebra.specs.Layout.{view}
use Rattle.grammar.specs.Items.{nodes_of}
use Rattle.nodes.specs.Rows.{overlaid}
use Rattle.loading.proofs.placing.place.Given as goal

abbrev pub invariant-loop-at : goal.invariant-loop-at
invariant-loop-at g l = view g.K.Kind.numbers_of l.nodes ≡ overlaid (view g.K.Kind.numbers_of l.initial.nodes) l.to (nodes_of (take l.at l.items))
