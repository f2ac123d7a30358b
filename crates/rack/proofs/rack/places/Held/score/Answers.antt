use Rattle.nodes.specs.Standing.{standing_score}
use Rattle.nodes.proofs.Standings.{fitting_stands}
use Rattle.rack.proofs.rack.places.Held.score.Goals as goal

pub of-requires-clause-stands : goal.of-requires-clause-stands
of-requires-clause-stands g c =
    let held = c.args.self.now in
    fitting_stands g.K.Kind.model g.met.K.Kind.lawful.lengths g.K.Kind.numbers_of g.met.K.Kind.legal held.nodes.now (standing_score g.K.Kind.numbers_of held.nodes.now) held.whole held.fits
