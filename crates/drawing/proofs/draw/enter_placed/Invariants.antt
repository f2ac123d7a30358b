-- What is left to enter makes the whole picture of the one so far, at the settings of the start, and what is spared stayed.
use Rattle.std.proofs.Common.{◌≡◌, map, drop}
use Rattle.normal.specs.Placing.{all_placed}
use Rattle.render.specs.Drawings.{entered_all, StaysSpared}
use Rattle.drawing.specs.Drawn.{entry_of}
use Rattle.drawing.proofs.draw.enter_placed.Given as goal

abbrev pub invariant-loop-item : goal.invariant-loop-item
invariant-loop-item g l =
    let R = g.R.Renderer in
    let s = R.settings_of l.initial.renderer in
    record {
      settings : R.settings_of l.renderer ≡ s;
      picture : entered_all (R.entered s) (map (entry_of g.K.Kind.model) (all_placed (drop l.item-index l.item-items))) (R.picture_of l.renderer) ≡ entered_all (R.entered s) (map (entry_of g.K.Kind.model) l.placed) (R.picture_of l.initial.renderer);
      spared : StaysSpared R.spares l.initial.renderer l.renderer;
    }
