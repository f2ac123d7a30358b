use Rattle.algebra.specs.Layout.{view}
use Rattle.nodes.specs.Spans.{Spanned}
use Rattle.nodes.proofs.spans.fill_spans.Given as goal

abbrev pub invariant-loop-at : goal.invariant-loop-at
invariant-loop-at g l = Spanned g.K.Kind.model (view g.K.Kind.numbers_of l.row) l.spans l.at
