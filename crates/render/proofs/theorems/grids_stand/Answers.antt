use Rattle.render.proofs.Shown.{grid_shows}
use Rattle.render.proofs.Overlaps.{ticks_counted, ticks_whole}
use Rattle.render.proofs.theorems.grids_stand.Goals as goal

pub returns : goal.returns
returns c = record { shows = grid_shows; ticks = ticks_counted; whole = ticks_whole }
