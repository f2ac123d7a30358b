-- The law of the grid. It stands here since the grid hands it on as a member.
use Rattle.std.specs.Prelude.{◌≡◌, ℕ, ◌+◌, slice_index}
use Rattle.std.proofs.Common.{sym, ap, ap₂, ◌∙◌, arith}
use Rattle.std.proofs.Math.Path.{fun_ext}
use Rattle.std.proofs.lemmas.List.FromFn.{get_or-map-range_with_len, length-map-range_with_len, fill_by_all}
use Rattle.render.specs.Drawings.{InEitherOrder}
use Rattle.render.specs.Grid.{GridSettings, counted, ticks_in_cell, by_cell, grid_entered}

-- what is added cell by cell adds up
pub by_cell_more : (s : GridSettings) (f g : ℕ → ℕ) → by_cell s (λ i. slice_index (by_cell s f) i + g i) ≡ by_cell s (λ i. f i + g i)
by_cell_more s f g =
    fill_by_all (λ i. counted (f i + g i)) (by_cell s (λ i. slice_index (by_cell s f) i + g i)) s.number 0 (length-map-range_with_len _ 0 s.number)
    (λ k within.
    get_or-map-range_with_len (λ i. counted (slice_index (by_cell s f) i + g i)) 0 s.number k k 0 within (omega arith)
    ∙ ap (λ c. counted (c + g k)) (get_or-map-range_with_len (λ i. counted (f i)) 0 s.number k k 0 within (omega arith))
    ∙ omega arith)

pub grid_either_order : InEitherOrder grid_entered
grid_either_order s p a b =
    let at = ticks_in_cell s.width in
    ap₂ (λ cells beyond. record { length = p.length; cells = cells; beyond = beyond })
    (by_cell_more s (λ i. slice_index p.cells i + at i a) (λ i. at i b)
    ∙ ap (by_cell s) (fun_ext (λ i. omega arith))
    ∙ sym (by_cell_more s (λ i. slice_index p.cells i + at i b) (λ i. at i a)))
    (omega arith)
