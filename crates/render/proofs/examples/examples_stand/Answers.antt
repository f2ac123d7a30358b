-- Each line of the table computes.
use Rattle.std.proofs.Common.{refl}
use Rattle.render.proofs.examples.examples_stand.Goals as goal

pub returns : goal.returns
returns c = record { cells = refl; far = refl; twice = refl; over = refl }
