use Rattle.std.proofs.Common.{sym, ap, ◌∙◌}
use Rattle.algebra.specs.Compare.{compared}
use Rattle.building.specs.Rows.{score_in}
use Rattle.comparing.specs.Comparisons.{said}
use Rattle.rack.specs.Shelves.{score_held}
use Rattle.rack.proofs.Comparing.{same_exactly, only_answer}
use Rattle.rack.proofs.Shelves.{row_holdable}
use Rattle.rack.proofs.rack.Rack.compare.Goals as goal

pub returns-clause-same : goal.returns-clause-same
returns-clause-same g c =
    let K = g.K.Kind.model in
    let first = sym (ap score_in c.in_ok-one.ensures.held) in
    let second = sym (ap score_in c.in_ok-other.ensures.held) in
    same_exactly K (score_held c.args.self.now c.args.first) (score_held c.args.self.now c.args.second) c.compare_held.result (c.compare_held.ensures ∙ (λ i. said (compared K (first i) (second i))))

pub returns-clause-only : goal.returns-clause-only
returns-clause-only g c =
    let K = g.K.Kind.model in
    let f = g.K.Kind.numbers_of in
    let laws = g.met.K.Kind.lawful in
    let first = sym (ap score_in c.in_ok-one.ensures.held) in
    let second = sym (ap score_in c.in_ok-other.ensures.held) in
    only_answer K (score_held c.args.self.now c.args.first) (score_held c.args.self.now c.args.second) c.compare_held.result (c.compare_held.ensures ∙ (λ i. said (compared K (first i) (second i)))) laws.order
    (row_holdable K laws.lengths f g.met.K.Kind.legal c.in_ok-one.one.nodes.now (ap score_in c.in_ok-one.ensures.held) c.in_ok-one.one.fits).legal
    (row_holdable K laws.lengths f g.met.K.Kind.legal c.in_ok-other.other.nodes.now (ap score_in c.in_ok-other.ensures.held) c.in_ok-other.other.fits).legal
