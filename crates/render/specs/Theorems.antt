-- What is proved of rolls and grids over whole drawings.
use Rattle.std.specs.Prelude.{◌≡◌, ℕ, ◌+◌, ◌&&◌, List, map, sum, count_by, nat_le, nat_lt}
use Rattle.std.specs.List.{range_with_len}
use Rattle.render.specs.Entries.{SameEntries}
use Rattle.render.specs.Drawings.{entered_all}
use Rattle.render.specs.Roll.{bag_of, roll_blank, roll_entered, roll_drawn}
use Rattle.render.specs.Grid.{GridSettings, ticks_between, ticks_in_cell, ticks_past_cells, grid_blank, grid_entered, grid_drawn}
use Rattle.render.specs.declared.entry.Entry.{Entry}

-- A roll on which a list is drawn shows how often the list has each entry, or that it has more than the capacity.
abbrev pub RollShows : Type 0
RollShows = (capacity length : ℕ) (es : List Entry) → entered_all (roll_entered capacity) es (roll_blank capacity length) ≡ roll_drawn capacity length es

-- How often each entry is held says how many are held.
abbrev pub TimesFixNumber : Type 0
TimesFixNumber = (es fs : List Entry) → SameEntries es fs → bag_of es ≡ bag_of fs

-- A grid on which a list is drawn shows for each cell, and beyond them, the sum of the ticks that its entries sound there.
abbrev pub GridShows : Type 0
GridShows = (s : GridSettings) (length : ℕ) (es : List Entry) → entered_all (grid_entered s) es (grid_blank s length) ≡ grid_drawn s length es

-- The ticks within a stretch are those of the entry's ticks that stand in it: onset, onset + 1 and so on, as many as its length.
abbrev pub TicksCounted : Type 0
TicksCounted = (from to : ℕ) (e : Entry) → ticks_between from to e ≡ count_by (λ tick. nat_le from tick && nat_lt tick to) (range_with_len e.onset e.length)

-- No tick is lost and none counted twice: all cells and beyond have as many ticks of an entry as it is long.
abbrev pub TicksWhole : Type 0
TicksWhole = (s : GridSettings) (e : Entry) → sum (map (λ i. ticks_in_cell s.width i e) (range_with_len 0 s.number)) + ticks_past_cells s e ≡ e.length
