use Rattle.std.proofs.Common.{arith}
use Rattle.nodes.proofs.Standings.{stands_small, some_row}
use Rattle.nodes.proofs.score.Score.look.Goals as goal

pub look-requires : goal.look-requires
look-requires g c =
    let t = c.self.invariant.tabled in
    record {
      whole = t.stands.whole;
      inside = some_row g.K.Kind.model g.K.Kind.numbers_of c.self.inside.nodes.now c.self.inside.spans.now t;
      small = stands_small g.K.Kind.numbers_of c.self.inside.nodes.now t.stands;
      room = t.room;
      behind = λ i l j. t.spanned i (omega arith) j;
    }
