use Rattle.std.proofs.Common.{ap, ◌∙◌}
use Rattle.std.proofs.lemmas.List.{take_all}
use Rattle.render.specs.Drawings.{entered_all}
use Rattle.render.proofs.Drawings.{any_order, drawn_more}
use Rattle.render.proofs.renderer.enter_all.Goals as goal

pub loop-entry-preserved : goal.loop-entry-preserved
loop-entry-preserved g c =
    let kept = c.loop-entry.invariant.0 in (
      c.enter.ensures.settings ∙ kept,
      drawn_more g.R.Renderer.entered _ _ _ _ _ _ _ _ c.loop-entry-test.true kept c.loop-entry.invariant.1 c.enter.ensures.picture,
      λ before h. c.enter.ensures.spared before (c.loop-entry.invariant.2 before h),
    )

pub returns : goal.returns
returns g c =
    let R = g.R.Renderer in
    let whole = take_all c.loop-entry.entry-index c.args.entries.now c.loop-entry-test.false in
    record {
      settings = c.loop-entry.invariant.0;
      picture = c.loop-entry.invariant.1 ∙ ap (λ es. entered_all (R.entered (R.settings_of c.args.renderer.now)) es (R.picture_of c.args.renderer.now)) whole;
      order = any_order R.entered R.either_order;
      spared = c.loop-entry.invariant.2;
    }
