-- What a renderer shows after a drawing.
use Rattle.std.specs.Prelude.{Ok, Err}
use Rattle.refusals.specs.Checks.{Check}

-- The new picture where the drawing is not refused, and else the old one.
abbrev pub drawn_over : {P : Type 0} → Check → P → P → P
drawn_over (Ok u) new old = new
drawn_over (Err e) new old = old
