-- Entries, and lists of them read as bags.
use Rattle.std.specs.Prelude.{◌≡◌, ℕ, ◌+◌, Bool, ◌&&◌, List, ◌==◌}
use Rattle.algebra.specs.Bag.{count}
use Rattle.algebra.specs.Score.{same_numbers}
use Rattle.render.specs.declared.entry.Entry.{Entry}

-- Whether two entries agree in onset, length and all four numbers.
abbrev pub same_entry : Entry → Entry → Bool
same_entry a b = a.onset == b.onset && (a.length == b.length && same_numbers a.numbers b.numbers)

-- The tick at which an entry has ended.
abbrev pub end_of : Entry → ℕ
end_of e = e.onset + e.length

-- How often an entry stands in a list.
abbrev pub times_in : List Entry → Entry → ℕ
times_in es e = count same_entry e es

-- Equal bags: every entry stands in both lists equally often.
abbrev pub SameEntries : List Entry → List Entry → Type 0
SameEntries es fs = (e : Entry) → times_in es e ≡ times_in fs e
