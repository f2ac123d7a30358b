-- The ticks of an entry within stretches of time.
use Rattle.std.proofs.Common.{◌≡◌, ℕ, zero, suc, ◌+◌, ◌-◌, ◌*◌, ◌≤◌, min, max, cond, ◌&&◌, ltb, leb, map, sum, count_by, sym, ap, ◌∙◌, arith}
use Rattle.std.specs.List.{range_with_len}
use Rattle.std.proofs.lemmas.List.FromFn.{sum_by-map-range_with_len_more}
use Rattle.std.proofs.lemmas.List.Sums.{sum_by-cons}
use Rattle.std.proofs.lemmas.Bool.Decides.{nat_tests}
use Rattle.render.specs.Grid.{ticks_between, ticks_in_cell, ticks_past_cells}
use Rattle.render.specs.Theorems.{TicksCounted, TicksWhole}
use Rattle.render.specs.declared.entry.Entry.{Entry}

-- the first tick, and those after it
first_tick : (from to onset length : ℕ) → min to (onset + suc length) - max from onset ≡ cond (leb from onset && ltb onset to) 1 0 + (min to (onset + 1 + length) - max from (onset + 1))
first_tick from to onset length = grind (arith, nat_tests)

counted_from : (from to onset length : ℕ) → min to (onset + length) - max from onset ≡ count_by (λ tick. leb from tick && ltb tick to) (range_with_len onset length)
counted_from from to onset zero = omega arith
counted_from from to onset (suc length) =
    first_tick from to onset length
    ∙ ap (λ n. cond (leb from onset && ltb onset to) 1 0 + n) (counted_from from to (onset + 1) length)
    ∙ sym (sum_by-cons (λ tick. cond (leb from tick && ltb tick to) 1 0) onset (range_with_len (onset + 1) length))

pub ticks_counted : TicksCounted
ticks_counted from to e = counted_from from to e.onset e.length

-- two stretches that meet
joined : (from meet to : ℕ) (e : Entry) → from ≤ meet → meet ≤ to → ticks_between from meet e + ticks_between meet to e ≡ ticks_between from to e
joined from meet to e before after = omega arith

cells_whole : (width n : ℕ) (e : Entry) → sum (map (λ i. ticks_in_cell width i e) (range_with_len 0 n)) ≡ ticks_between 0 (n * width) e
cells_whole width zero e = omega arith
cells_whole width (suc n) e =
    let cell : ℕ → ℕ = λ i. ticks_in_cell width i e in
    let more : suc n ≡ n + 1 = omega arith in
    ap (λ k. sum (map cell (range_with_len 0 k))) more
    ∙ sum_by-map-range_with_len_more (λ x. x) cell 0 n n (omega arith)
    ∙ ap (λ ticks. ticks + cell n) (cells_whole width n e)
    ∙ joined 0 (n * width) ((n + 1) * width) e (omega arith) (omega arith)
    ∙ ap (λ k. ticks_between 0 (k * width) e) (sym more)

pub ticks_whole : TicksWhole
ticks_whole s e = ap (λ ticks. ticks + ticks_past_cells s e) (cells_whole s.width s.number e) ∙ omega arith
