-- With room the entry stands in the row and is held; without, the roll is overfull.
use Rattle.std.proofs.Common.{◌≡◌, length, take, Some, sym, refl, ap, ◌∙◌}
use Rattle.std.proofs.lemmas.List.{length-set, set_past}
use Rattle.std.specs.Option.{option_map}
use Rattle.render.specs.Roll.{bag_of, held_with, behind, row_with, entries_of}
use Rattle.render.proofs.Rolls.{held_more, held_over, behind_more}
use Rattle.render.proofs.roll.RollRenderer.enter.Goals as goal

pub returns-then-held-self : goal.returns-then-held-self
returns-then-held-self c =
    let row = c.args.self.now.row.now in
    let n = c.in-Some.held in
    let e = c.args.entry in
    let before : Some (take n row) ≡ entries_of c.args.self.now = ap (option_map (λ k. take k row)) (sym c.in-Some.is) in
    record {
      settings = length-set row n e;
      picture = ap (λ held. record { length = c.args.self.now.length; held = held })
          (held_more row n e c.if-held-self.true ∙ ap (λ es. held_with (length row) e (option_map bag_of es)) before);
      spared = λ first h. (
        behind_more row n e first.row.now c.if-held-self.true (ap (behind row) before ∙ h.0 ∙ ap (behind first.row.now) (sym before)),
        h.1,
      );
      row = ap (row_with e row) (sym c.in-Some.is);
    }

pub returns-else-held-self : goal.returns-else-held-self
returns-else-held-self c =
    let row = c.args.self.now.row.now in
    let n = c.in-Some.held in
    let e = c.args.entry in
    let before : Some (take n row) ≡ entries_of c.args.self.now = ap (option_map (λ k. take k row)) (sym c.in-Some.is) in
    let full = c.if-held-self.false in
    record {
      settings = refl;
      picture = ap (λ held. record { length = c.args.self.now.length; held = held })
          (held_over row n e full ∙ ap (λ es. held_with (length row) e (option_map bag_of es)) before);
      spared = λ first h. (refl, h.1);
      row = sym (set_past row n e full) ∙ ap (row_with e row) (sym c.in-Some.is);
    }
