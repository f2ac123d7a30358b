-- What a grid shows: the length, and how many ticks sound in each cell and beyond the cells.
use Rattle.std.specs.Prelude.{◌≡◌, ℕ, ◌+◌, ◌-◌, ◌*◌, min, max, List, map, length as size, take, drop, replicate, sum_by, slice_index}
use Rattle.std.specs.List.{range_with_len}
use Rattle.render.specs.Entries.{end_of}
use Rattle.render.specs.declared.entry.Entry.{Entry}
use Rattle.render.specs.declared.grid.Grid.{Grid}

-- How many ticks a cell is wide, and how many cells there are.
pub record GridSettings : Type 0 where
  pub width : ℕ
  pub number : ℕ

-- The length of the last start, the count of each cell, and the count of ticks beyond the last cell.
pub record GridPicture : Type 0 where
  pub length : ℕ
  pub cells : List ℕ
  pub beyond : ℕ

-- A count stays at 4,294,967,295 once there.
abbrev pub counted : ℕ → ℕ
counted ticks = min 4294967295 ticks

-- The ticks that an entry sounds from one tick to before another: where two stretches of time overlap.
abbrev pub ticks_between : ℕ → ℕ → Entry → ℕ
ticks_between from to e = min to (end_of e) - max from e.onset

-- Cell i is from i times the width to before i + 1 times the width.
abbrev pub ticks_in_cell : ℕ → ℕ → Entry → ℕ
ticks_in_cell width i e = ticks_between (i * width) ((i + 1) * width) e

-- Beyond the cells is from the end of the last cell on.
abbrev pub ticks_past_cells : GridSettings → Entry → ℕ
ticks_past_cells s e = ticks_between (s.number * s.width) (end_of e) e

-- A count for each cell.
abbrev pub by_cell : GridSettings → (ℕ → ℕ) → List ℕ
by_cell s ticks = map (λ i. counted (ticks i)) (range_with_len 0 s.number)

-- Each cell with the ticks that the entry sounds in it.
abbrev pub cells_with : GridSettings → Entry → List ℕ → List ℕ
cells_with s e cells = by_cell s (λ i. slice_index cells i + ticks_in_cell s.width i e)

-- After a start every count is 0.
abbrev pub grid_blank : GridSettings → ℕ → GridPicture
grid_blank s length = record { length = length; cells = replicate s.number 0; beyond = 0 }

-- Each count gains the ticks that the entry sounds there.
abbrev pub grid_entered : GridSettings → Entry → GridPicture → GridPicture
grid_entered s e p = record {
  length = p.length;
  cells = cells_with s e p.cells;
  beyond = counted (p.beyond + ticks_past_cells s e);
}

-- A whole drawing in one line: each count is the sum of the ticks that all entries sound there.
abbrev pub grid_drawn : GridSettings → ℕ → List Entry → GridPicture
grid_drawn s length es = record {
  length = length;
  cells = by_cell s (λ i. sum_by (ticks_in_cell s.width i) es);
  beyond = counted (sum_by (ticks_past_cells s) es);
}

-- A width of 0 counts as 1, and one above 65,535 as that.
abbrev pub width_from : ℕ → ℕ
width_from width = max 1 (min width 65535)

-- The first 4,096 cells at most are used.
abbrev pub cells_used : List ℕ → ℕ
cells_used cells = min (size cells) 4096

-- The settings of a grid: its cell width and how many cells it uses.
abbrev pub grid_settings : Grid → GridSettings
grid_settings g = record { width = width_from g.width; number = cells_used g.cells.now }

-- The picture of a grid: its used cells are the first of the row.
abbrev pub grid_picture : Grid → GridPicture
grid_picture g = record { length = g.length; cells = take 4096 g.cells.now; beyond = g.beyond }

-- The cells that are not used are as they were.
abbrev pub grid_spares : Grid → Grid → Type 0
grid_spares before after = (drop 4096 after.cells.now ≡ drop 4096 before.cells.now) × (after.cells.ghost_name ≡ before.cells.ghost_name)
