-- The calls so far are made, the answers behind them are as they were, and so are the settings.
use Rattle.std.proofs.Common.{◌≡◌, take, drop}
use Rattle.ledger.specs.Runs.{state_of, renderer_at, Ran}
use Rattle.ledger.proofs.play.play_on.Given as goal

abbrev pub invariant-loop-i : goal.invariant-loop-i
invariant-loop-i g l =
    let R = g.R.Renderer in
    record {
      run : Ran g.K.Kind.model (renderer_at R.blank R.entered (R.settings_of l.initial.renderer)) (state_of l.initial.rack l.initial.buffer (R.picture_of l.initial.renderer))
          (take l.i l.calls) l.answers (state_of l.rack l.buffer (R.picture_of l.renderer));
      others : drop l.i l.answers ≡ drop l.i l.initial.answers;
      settings : R.settings_of l.renderer ≡ R.settings_of l.initial.renderer;
    }
