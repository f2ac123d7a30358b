use Rattle.render.proofs.Shown.{roll_shows, times_fix_number}
use Rattle.render.proofs.theorems.rolls_stand.Goals as goal

pub returns : goal.returns
returns c = record { shows = roll_shows; number = times_fix_number }
