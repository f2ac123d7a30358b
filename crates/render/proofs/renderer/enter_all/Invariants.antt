-- The entries so far are entered, at the settings of the start, and what is spared stayed.
use Rattle.std.proofs.Common.{◌≡◌, take}
use Rattle.render.specs.Drawings.{entered_all, StaysSpared}
use Rattle.render.proofs.renderer.enter_all.Given as goal

abbrev pub invariant-loop-entry : goal.invariant-loop-entry
invariant-loop-entry g l =
    let R = g.R.Renderer in
    let s = R.settings_of l.initial.renderer in
    (R.settings_of l.renderer ≡ s) × (R.picture_of l.renderer ≡ entered_all (R.entered s) (take l.entry-index l.entries) (R.picture_of l.initial.renderer)) × StaysSpared R.spares l.initial.renderer l.renderer
