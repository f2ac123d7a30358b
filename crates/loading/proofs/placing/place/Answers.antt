use Rattle.std.proofs.Common.{sym, ap, ◌∙◌}
use Rattle.std.proofs.lemmas.List.{take_all}
use Rattle.algebra.specs.Layout.{view}
use Rattle.grammar.specs.Items.{nodes_of}
use Rattle.nodes.specs.Rows.{overlaid}
use Rattle.nodes.proofs.Overlays.{overlaid_none}
use Rattle.loading.proofs.Rows.{legal_at, placed_more}
use Rattle.loading.proofs.placing.place.Goals as goal

pub loop-at-init : goal.loop-at-init
loop-at-init g c = sym (overlaid_none (view g.K.Kind.numbers_of c.args.nodes.now) c.args.to)

pub legal_node_of-node-requires : goal.legal_node_of-node-requires
legal_node_of-node-requires g c = legal_at g.K.Kind.model c.args.items.now c.requires.legal c.loop-at.at c.loop-at-test.true

pub loop-at-preserved : goal.loop-at-preserved
loop-at-preserved g c =
    placed_more c.args.items.now c.loop-at.at c.loop-at-test.true g.K.Kind.numbers_of c.args.nodes.now c.loop-at.nodes c.args.to c.requires.room c.loop-at.auto.nodes
    c.loop-at.invariant c.legal_node_of-node.result c.legal_node_of-node.ensures

pub returns : goal.returns
returns g c =
    c.loop-at.invariant
    ∙ ap (λ is. overlaid (view g.K.Kind.numbers_of c.args.nodes.now) c.args.to (nodes_of is)) (take_all c.loop-at.at c.args.items.now c.loop-at-test.false)
