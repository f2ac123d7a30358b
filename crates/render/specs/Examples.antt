-- Worked examples of rolls and grids, as one table of equations.
use Rattle.std.specs.Prelude.{◌≡◌, ℕ, [], ◌∷◌, Some, None}
use Rattle.algebra.specs.Kind.{four}
use Rattle.render.specs.Drawings.{entered_all}
use Rattle.render.specs.Roll.{bag_of, roll_blank, roll_entered}
use Rattle.render.specs.Grid.{GridSettings, grid_blank, grid_entered}
use Rattle.render.specs.declared.entry.Entry.{Entry}

-- A note of pitch 60 and velocity 96 at an onset.
abbrev note : ℕ → ℕ → Entry
note onset length = record { onset = onset; length = length; numbers = four 60 96 length 0 }

-- Three cells of 10 ticks.
abbrev three : GridSettings
three = record { width = 10; number = 3 }

pub record Examples : Type 0 where
  -- from tick 5 to before 35: 5 ticks in the first cell, 10 in the second, 10 in the third, 5 beyond
  pub cells : grid_entered three (note 5 30) (grid_blank three 480) ≡ record { length = 480; cells = 5 ∷ 10 ∷ 10 ∷ []; beyond = 5 }
  -- an entry that ends past the largest number counts beyond the cells, where the count stays at the largest
  pub far : entered_all (grid_entered three) (note 4294967295 4294967295 ∷ note 29 2 ∷ []) (grid_blank three 480) ≡ record { length = 480; cells = 0 ∷ 0 ∷ 1 ∷ []; beyond = 4294967295 }
  -- two equal entries on a roll of capacity 2 are held twice
  pub twice : roll_entered 2 (note 0 480) (roll_entered 2 (note 0 480) (roll_blank 2 480)) ≡ record { length = 480; held = Some (bag_of (note 0 480 ∷ note 0 480 ∷ [])) }
  -- one too many makes it overfull, and so it stays
  pub over : entered_all (roll_entered 2) (note 0 480 ∷ note 0 480 ∷ note 5 30 ∷ note 6 7 ∷ []) (roll_blank 2 480) ≡ record { length = 480; held = None }
