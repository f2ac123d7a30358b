use Rattle.partners.proofs.Tallies.{nothing_spent}
use Rattle.partners.proofs.spending.Partners.of.Goals as goal

pub returns : goal.returns
returns g c = record { bag = c.fill.ensures.bag; tally = nothing_spent g.K.Kind.model c.fill.new.self 170 }
