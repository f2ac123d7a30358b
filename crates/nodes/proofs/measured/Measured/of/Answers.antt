use Rattle.std.proofs.Common.{arith}
use Rattle.nodes.proofs.Standings.{stands_small}
use Rattle.nodes.proofs.measured.Measured.of.Goals as goal

pub fill_spans-requires-clause-small : goal.fill_spans-requires-clause-small
fill_spans-requires-clause-small g c = stands_small g.K.Kind.numbers_of c.args.nodes.now c.requires

pub fill_spans-requires-clause-room : goal.fill_spans-requires-clause-room
fill_spans-requires-clause-room g c = stands_small g.K.Kind.numbers_of c.args.nodes.now c.requires

pub invariant_of-result : goal.invariant_of-result
invariant_of-result g c =
    record { stands = c.requires; room = omega (arith, stands_small g.K.Kind.numbers_of c.args.nodes.now c.requires); spanned = c.fill_spans.ensures }
