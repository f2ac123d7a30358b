use Rattle.std.proofs.Common.{replicate, None, sym, subst}
use Rattle.rack.specs.Places.{number}
use Rattle.rack.specs.Shelves.{Shelf}
use Rattle.ledger.specs.Ledgers.{blank}
use Rattle.ledger.specs.Stands.{Stands}
use Rattle.ledger.specs.Runs.{state_of, renderer_at, Ran}
use Rattle.ledger.proofs.Running.{keeps, start}
use Rattle.ledger.proofs.play.play.Goals as goal

pub returns : goal.returns
returns g c =
    let K = g.K.Kind.model in
    let R = g.R.Renderer in
    let n = number c.args.nodes.now in
    let calls = c.args.calls.now in
    let answers = c.play_on.new.answers in
    let at = renderer_at R.blank R.entered (R.settings_of c.args.renderer.now) in
    let first = state_of (replicate n None) c.args.buffer.now (R.picture_of c.args.renderer.now) in
    let last = state_of c.play_on.new.rack c.play_on.new.buffer (R.picture_of c.play_on.new.renderer) in
    let ran = subst (λ (s : Shelf). Ran K at (state_of s c.args.buffer.now (R.picture_of c.args.renderer.now)) calls answers last) c.new-rack.ensures c.play_on.ensures.run in
    record {
      run = ran;
      others = c.play_on.ensures.others;
      settings = c.play_on.ensures.settings;
      ledger = record {
        kept = keeps K at calls answers first last (blank n) ran;
        certified = λ l k. c.play_on.ensures.ledger (blank n) l (subst (λ (s : Shelf). Stands K s (blank n)) (sym c.new-rack.ensures) (start K n)) k;
      };
    }
