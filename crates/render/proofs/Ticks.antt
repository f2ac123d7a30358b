-- Cells that an entry does not sound in, and a loop over those that it does.
use Rattle.std.proofs.Common.{◌≡◌, ℕ, ◌+◌, ◌*◌, ◌/◌, ◌%◌, ◌^◌, ◌<◌, ◌≤◌, min, ◌≢◌, List, length, get_or, take, drop, set, sym, ap, ◌∙◌, ⊎_elim, mul_comm, div-lt_iff_lt-mul, le-div_iff_mul-le, arith}
use native.Mathlib.Nat.{div-add-mod}
use Rattle.std.proofs.lemmas.List.FromFn.{fill_by_all}
use Rattle.std.proofs.lemmas.List.{length-take, length-drop, get_or-take, get_or-drop, get_or-set_same, get_or-set_other, ext_get_or}
use Rattle.std.proofs.lemmas.Bool.{cases_lt}
use Rattle.render.specs.Entries.{end_of}
use Rattle.render.specs.Grid.{GridSettings, counted, ticks_in_cell, cells_used, cells_with}
use Rattle.render.specs.declared.entry.Entry.{Entry}

-- a cell that ends before the entry begins
pub silent_before : (width i : ℕ) (e : Entry) → 0 < width → i < e.onset / width → ticks_in_cell width i e ≡ 0
silent_before width i e wide before =
    let ends : (i + 1) * width ≤ e.onset = (le-div_iff_mul-le {x = i + 1} wide).0 (omega arith) in
    omega arith

-- a cell that begins when the entry has ended
pub silent_after : (width i end : ℕ) (e : Entry) → 0 < width → end ≡ end_of e → end / width + min 1 (end % width) ≤ i → ticks_in_cell width i e ≡ 0
silent_after width i end e wide is after =
    let begins : end ≤ i * width = ⊎_elim
    (λ (part : end / width < i). omega (arith, (div-lt_iff_lt-mul {x = end} {y = i} wide).0 part))
    (λ (whole : i ≤ end / width). let exact : end / width ≡ i = omega arith in omega (arith, div-add-mod end width, ap (λ q. width * q) exact, mul_comm width i))
    (cases_lt (end / width) i) in
    omega arith

-- no ticks leave a count as it is
pub count_stays : (count ticks : ℕ) → count < 2 ^ 32 → ticks ≡ 0 → count ≡ counted (count + ticks)
count_stays count ticks fits none = omega arith

module _ (new : ℕ → ℕ) (old : List ℕ) where
  -- the cells before place i are new, the others old
  abbrev pub NewTo : ℕ → List ℕ → Type 0
  NewTo i cells = ((k : ℕ) → k < i → get_or cells k 0 ≡ new k) × ((k : ℕ) → i ≤ k → get_or cells k 0 ≡ get_or old k 0)

  pub new_more : (i : ℕ) (cells : List ℕ) (value : ℕ) → i < length cells → value ≡ new i → NewTo i cells → NewTo (i + 1) (set cells i value)
  new_more i cells value within is at = (
    λ k below. ⊎_elim
        (λ (before : k < i). let other : k ≢ i = omega arith in get_or-set_other cells i k value 0 other ∙ at.0 k before)
        (λ (here : i ≤ k). let e : k ≡ i = omega arith in ap (λ j. get_or (set cells i value) j 0) e ∙ get_or-set_same cells i value 0 within ∙ is ∙ ap new (sym e))
        (cases_lt k i),
    λ k above. let other : k ≢ i = omega arith in get_or-set_other cells i k value 0 other ∙ at.1 k (omega arith),
  )

module _ (s : GridSettings) (e : Entry) (old cells : List ℕ) (last : ℕ) where
  -- the loop's end: every used cell is new, and no other is
  pub cells-drawn :
      s.number ≡ cells_used old →
      length cells ≡ length old →
      last ≤ 4096 →
      ((k : ℕ) → get_or old k 0 < 2 ^ 32) →
      ((k : ℕ) → last ≤ k → k < s.number → ticks_in_cell s.width k e ≡ 0) →
      NewTo (λ i. counted (get_or old i 0 + ticks_in_cell s.width i e)) old last cells →
      (take 4096 cells ≡ cells_with s e (take 4096 old)) × (drop 4096 cells ≡ drop 4096 old)
  cells-drawn number long most fits silent at = (
    fill_by_all _ (take 4096 cells) s.number 0 (simp length-take (omega arith))
        (λ k within.
        get_or-take 4096 cells k 0 (omega arith)
        ∙ ⊎_elim
        (λ (sounds : k < last). at.0 k sounds)
        (λ (rests : last ≤ k). at.1 k rests ∙ count_stays (get_or old k 0) (ticks_in_cell s.width k e) (fits k) (silent k rests within))
        (cases_lt k last)
        ∙ ap (λ c. counted (c + ticks_in_cell s.width k e)) (sym (get_or-take 4096 old k 0 (omega arith)))),
    ext_get_or 0 (drop 4096 cells) (drop 4096 old) (simp length-drop (omega arith))
        (λ k within. get_or-drop 4096 cells k 0 ∙ at.1 (4096 + k) (omega arith) ∙ sym (get_or-drop 4096 old k 0)),
  )
