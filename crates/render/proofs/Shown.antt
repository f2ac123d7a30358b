-- What rolls and grids show after a whole drawing.
use Rattle.std.proofs.Common.{◌≡◌, ℕ, suc, ◌+◌, ◌<◌, ◌≤◌, Bool, true, false, cond, leb, List, [], ◌∷◌, length, replicate, Some, None, sum_by, Option, sym, refl, ap, ◌∙◌, ap₂, ⊎_elim, arith}
use mathlib.Core.Path.{fun_ext}
use Rattle.std.proofs.lemmas.List.FromFn.{fill_by_all}
use Rattle.std.proofs.lemmas.List.{length-replicate, get_or-replicate}
use Rattle.std.proofs.lemmas.List.Sums.{sum_by-cons}
use Rattle.std.proofs.lemmas.Bool.{lt-ltb, le-ltb, le-leb, lt-leb, cases_lt}
use Rattle.algebra.proofs.Bags.{permuted_from_counts}
use Rattle.algebra.proofs.Sizes.{length_permuted}
use Rattle.render.specs.Entries.{same_entry, times_in}
use Rattle.render.specs.Drawings.{entered_all}
use Rattle.render.specs.Roll.{Held, RollPicture, bag_of, with_entry, roll_entered}
use Rattle.render.specs.Grid.{GridSettings, GridPicture, counted, ticks_in_cell, ticks_past_cells, by_cell, grid_entered}
use Rattle.render.specs.GridLaw.{by_cell_more}
use Rattle.render.specs.Theorems.{RollShows, TimesFixNumber, GridShows}
use Rattle.render.specs.declared.entry.Entry.{Entry}
use Rattle.render.proofs.Bags.{entry_equality}

-- a bag with all entries of a list more
abbrev gathered : List Entry → Held → Held
gathered es h = record { number = h.number + length es; times = λ x. h.times x + times_in es x }

abbrev rolled : ℕ → Option Held → RollPicture
rolled length held = record { length = length; held = held }

over_stays : (capacity length : ℕ) (es : List Entry) → entered_all (roll_entered capacity) es (rolled length None) ≡ rolled length None
over_stays capacity length [] = refl
over_stays capacity length (e ∷ es) = over_stays capacity length es

times_more : (t : Bool) (m n : ℕ) → cond t (suc m) m + n ≡ m + cond t (suc n) n
times_more true m n = omega arith
times_more false m n = refl

gathered_more : (e : Entry) (es : List Entry) (h : Held) → gathered es (with_entry e h) ≡ gathered (e ∷ es) h
gathered_more e es h = ap₂ (λ number times. record { number = number; times = times }) (omega arith) (fun_ext (λ x. times_more (same_entry x e) (h.times x) (times_in es x)))

rolls : (capacity size : ℕ) (es : List Entry) (h : Held) → h.number ≤ capacity → entered_all (roll_entered capacity) es (rolled size (Some h)) ≡ rolled size (cond (leb (h.number + length es) capacity) (Some (gathered es h)) None)
rolls capacity size [] h room =
    ap (λ g. rolled size (Some g)) (ap₂ (λ number times. record { number = number; times = times }) (omega arith) (fun_ext (λ x. omega arith)))
    ∙ ap (λ t. rolled size (cond t (Some (gathered [] h)) None)) (sym (le-leb (h.number + 0) capacity (omega arith)))
rolls capacity size (e ∷ es) h room =
    ⊎_elim
    (λ (more : h.number < capacity).
    ap (λ t. entered_all (roll_entered capacity) es (rolled size (cond t (Some (with_entry e h)) None))) (lt-ltb h.number capacity more)
    ∙ rolls capacity size es (with_entry e h) (omega arith)
    ∙ ap₂ (λ n g. rolled size (cond (leb n capacity) (Some g) None)) (omega arith) (gathered_more e es h))
    (λ (full : capacity ≤ h.number).
    ap (λ t. entered_all (roll_entered capacity) es (rolled size (cond t (Some (with_entry e h)) None))) (le-ltb h.number capacity full)
    ∙ over_stays capacity size es
    ∙ ap (λ t. rolled size (cond t (Some (gathered (e ∷ es) h)) None)) (sym (lt-leb (h.number + suc (length es)) capacity (omega arith))))
    (cases_lt h.number capacity)

pub roll_shows : RollShows
roll_shows capacity size es =
    rolls capacity size es (bag_of []) (omega arith)
    ∙ ap₂ (λ n times. rolled size (cond (leb n capacity) (Some (record { number = n; times = times })) None)) (omega arith) (fun_ext (λ x. omega arith))

pub times_fix_number : TimesFixNumber
times_fix_number es fs same =
    ap₂ (λ number times. record { number = number; times = times }) (length_permuted (permuted_from_counts entry_equality es fs same)) (fun_ext same)

-- a grid with these ticks in its cells and beyond
abbrev gridded : GridSettings → ℕ → (ℕ → ℕ) → ℕ → GridPicture
gridded s length ticks beyond = record { length = length; cells = by_cell s ticks; beyond = counted beyond }

grids : (s : GridSettings) (length : ℕ) (es : List Entry) (ticks : ℕ → ℕ) (beyond : ℕ) →
    entered_all (grid_entered s) es (gridded s length ticks beyond) ≡ gridded s length (λ i. ticks i + sum_by (ticks_in_cell s.width i) es) (beyond + sum_by (ticks_past_cells s) es)
grids s length [] ticks beyond = ap₂ (gridded s length) (fun_ext (λ i. omega arith)) (omega arith)
grids s length (e ∷ es) ticks beyond =
    ap (entered_all (grid_entered s) es) (ap₂ (λ cells past. record { length = length; cells = cells; beyond = past }) (by_cell_more s ticks (λ i. ticks_in_cell s.width i e)) (omega arith))
    ∙ grids s length es (λ i. ticks i + ticks_in_cell s.width i e) (beyond + ticks_past_cells s e)
    ∙ ap₂ (gridded s length) (fun_ext (λ i. omega (arith, sum_by-cons (ticks_in_cell s.width i) e es))) (omega (arith, sum_by-cons (ticks_past_cells s) e es))

pub grid_shows : GridShows
grid_shows s length es =
    ap (λ cells. entered_all (grid_entered s) es (record { length = length; cells = cells; beyond = 0 }))
    (fill_by_all (λ i. counted 0) (replicate s.number 0) s.number 0 (length-replicate s.number 0) (λ k within. get_or-replicate s.number k 0 0 within))
    ∙ grids s length es (λ i. 0) 0
    ∙ ap₂ (gridded s length) (fun_ext (λ i. omega arith)) (omega arith)
