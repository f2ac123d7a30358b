-- What a roll shows: the length, and how often it holds each entry; or that it is overfull.
use Rattle.std.specs.Prelude.{◌≡◌, ℕ, suc, cond, List, [], length as size, take, drop, Some, None, Option, nat_le, nat_lt, slice_set}
use Rattle.std.specs.Option.{option_map}
use Rattle.render.specs.Entries.{same_entry, times_in}
use Rattle.render.specs.declared.entry.Entry.{Entry}
use Rattle.render.specs.declared.roll.Roll.{Roll}

-- How many entries are held, and how often each.
pub record Held : Type 0 where
  pub number : ℕ
  pub times : Entry → ℕ

-- The length of the last start, and what is held; none where one too many was entered.
pub record RollPicture : Type 0 where
  pub length : ℕ
  pub held : Option Held

-- A list of entries as a bag.
abbrev pub bag_of : List Entry → Held
bag_of es = record { number = size es; times = times_in es }

-- After a start nothing is held.
abbrev pub roll_blank : ℕ → ℕ → RollPicture
roll_blank capacity length = record { length = length; held = Some (bag_of []) }

-- The bag with an entry more.
abbrev pub with_entry : Entry → Held → Held
with_entry e h = record { number = suc h.number; times = λ x. cond (same_entry x e) (suc (h.times x)) (h.times x) }

-- An entry more where the capacity has room; one too many, and nothing is held until the next start.
abbrev pub held_with : ℕ → Entry → Option Held → Option Held
held_with capacity e None = None
held_with capacity e (Some h) = cond (nat_lt h.number capacity) (Some (with_entry e h)) None

-- The length stays, and what is held gains the entry.
abbrev pub roll_entered : ℕ → Entry → RollPicture → RollPicture
roll_entered capacity e p = record { length = p.length; held = held_with capacity e p.held }

-- A whole drawing in one line: all entries as a bag where they are no more than the capacity, else overfull.
abbrev pub roll_drawn : ℕ → ℕ → List Entry → RollPicture
roll_drawn capacity length es = record { length = length; held = cond (nat_le (size es) capacity) (Some (bag_of es)) None }

-- The capacity of a roll is the length of its row.
abbrev pub capacity_of : Roll → ℕ
capacity_of r = size r.row.now

-- The entries of a roll: the first of its row, or none where it is overfull.
abbrev pub entries_of : Roll → Option (List Entry)
entries_of r = option_map (λ n. take n r.row.now) r.held

-- The picture of a roll: its entries as a bag.
abbrev pub roll_picture : Roll → RollPicture
roll_picture r = record { length = r.length; held = option_map bag_of (entries_of r) }

-- The row after one entry: written behind the entries where there is room, and else as it was.
abbrev pub row_with : Entry → List Entry → Option ℕ → List Entry
row_with e row None = row
row_with e row (Some n) = slice_set row n e

-- What stands in a row behind the entries that a roll holds; none where it is overfull.
abbrev pub behind : List Entry → Option (List Entry) → Option (List Entry)
behind row entries = option_map (λ es. drop (size es) row) entries

-- Behind the entries that the roll then holds, the row is as it was before.
abbrev pub roll_spares : Roll → Roll → Type 0
roll_spares before after = (behind after.row.now (entries_of after) ≡ behind before.row.now (entries_of after)) × (after.row.ghost_name ≡ before.row.ghost_name)
