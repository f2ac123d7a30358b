use Rattle.std.proofs.Common.{ap, ◌∙◌, arith}
use Rattle.algebra.specs.Layout.{preorder, view}
use Rattle.nodes.proofs.Standings.{node_within, stands_small, shows_at}
use Rattle.nodes.proofs.score.Score.look_at.Goals as goal

pub look-requires : goal.look-requires
look-requires g c =
    let t = c.self.invariant.tabled in
    record {
      whole = t.stands.whole;
      inside = node_within g.K.Kind.model g.K.Kind.numbers_of c.self.inside.nodes.now c.self.inside.spans.now t c.self.view_is c.args.at c.requires;
      small = stands_small g.K.Kind.numbers_of c.self.inside.nodes.now t.stands;
      room = t.room;
      behind = λ i l j. t.spanned i (omega arith) j;
    }

pub returns : goal.returns
returns g c =
    let f = g.K.Kind.numbers_of in
    shows_at f (view f c.self.inside.nodes.now) c.args.self.now (c.self.invariant.tabled.stands.whole ∙ ap preorder c.self.view_is) c.args.at c.look.result c.look.ensures
