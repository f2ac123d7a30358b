use Rattle.nodes.proofs.Standings.{stands_small}
use Rattle.nodes.proofs.score.Score.of.Goals as goal

pub fill_spans-requires-clause-small : goal.fill_spans-requires-clause-small
fill_spans-requires-clause-small g c = stands_small g.K.Kind.numbers_of c.args.nodes.now c.requires.stands
