use Rattle.std.proofs.Common.{length, refl, ◌∙◌, arith}
use Rattle.ledger.specs.Runs.{state_of, renderer_at}
use Rattle.ledger.proofs.Asking.{certified}
use Rattle.ledger.proofs.Running.{did_at, turn, run, ran_enough, set_behind, drop_behind}
use Rattle.ledger.proofs.play.play_on.Goals as goal

pub loop-i-preserved : goal.loop-i-preserved
loop-i-preserved g c =
    let K = g.K.Kind.model in
    let R = g.R.Renderer in
    let now = c.make_call in
    let so_far = c.loop-i.invariant in
    let first = state_of c.args.rack.now c.args.buffer.now (R.picture_of c.args.renderer.now) in
    let before = state_of c.loop-i.rack c.loop-i.buffer (R.picture_of c.loop-i.renderer) in
    let after = state_of now.new.rack now.new.buffer (R.picture_of now.new.renderer) in
    let did = did_at K R.blank R.entered _ _ so_far.settings before after _ now.result now.ensures.did in
    record {
      run = turn K (renderer_at R.blank R.entered (R.settings_of c.args.renderer.now)) c.args.calls.now c.loop-i.i _ _ c.loop-i.answers now.result first before after
          (omega (arith, c.min-i-end.ensures)) (omega (arith, c.min-i-end.ensures)) refl so_far.run did;
      others = set_behind c.loop-i.answers c.args.answers.now c.loop-i.i now.result so_far.others;
      settings = now.ensures.settings ∙ so_far.settings;
    }

pub returns : goal.returns
returns g c =
    let K = g.K.Kind.model in
    let R = g.R.Renderer in
    let so_far = c.loop-i.invariant in
    let calls = c.args.calls.now in
    let answers = c.loop-i.answers in
    let at = renderer_at R.blank R.entered (R.settings_of c.args.renderer.now) in
    let first = state_of c.args.rack.now c.args.buffer.now (R.picture_of c.args.renderer.now) in
    let last = state_of c.loop-i.rack c.loop-i.buffer (R.picture_of c.loop-i.renderer) in
    let ran = ran_enough K at c.loop-i.i calls answers first last (omega (arith, c.min-i-end.ensures, c.loop-i-test.false)) so_far.run in
    record {
      run = ran;
      others = drop_behind answers c.args.answers.now c.loop-i.i (length calls) (omega (arith, c.min-i-end.ensures)) so_far.others;
      settings = so_far.settings;
      ledger = λ l m st k. certified K g.met.K.Kind.lawful R.blank R.entered R.either_order last.shelf m (run K at g.met.K.Kind.lawful calls answers first last l m st ran k);
    }
