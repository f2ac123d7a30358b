use Rattle.std.proofs.Common.{◌≡◌, [], ◌∷◌, ◌++◌, length, take, set, sym, ap, ◌∙◌, add-one, arith, take-suc-set}
use Rattle.std.proofs.lemmas.List.{take_all, take_at, length-append, length-take-le}
use Rattle.grammar.proofs.draft.Draft.push.Goals as goal

pub returns-then-self-lt-ROOM : goal.returns-then-self-lt-ROOM
returns-then-self-lt-ROOM c =
    let d = c.self.inside in
    let x = c.args.item in
    let long : length (take d.count d.items) ≡ d.count = length-take-le d.count d.items (omega arith) in
    ap (λ n. take n (set d.items d.count x)) (add-one d.count)
    ∙ take-suc-set d.items d.count x (omega arith)
    ∙ sym (take_all 1024 (take d.count d.items ++ (x ∷ [])) (omega (arith, length-append (take d.count d.items) (x ∷ []), long, c.if-self-lt-ROOM.true)))
    ∙ ap (λ is. take 1024 (is ++ (x ∷ []))) c.self.view_is

pub returns-else-self-lt-ROOM : goal.returns-else-self-lt-ROOM
returns-else-self-lt-ROOM c =
    let d = c.self.inside in
    let x = c.args.item in
    sym c.self.view_is ∙ sym (take_at (take d.count d.items) (x ∷ []) 1024 (length-take-le d.count d.items (omega arith) ∙ omega (arith, c.self.invariant, c.if-self-lt-ROOM.false)))
    ∙ ap (λ is. take 1024 (is ++ (x ∷ []))) c.self.view_is
