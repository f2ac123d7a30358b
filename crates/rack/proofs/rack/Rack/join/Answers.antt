use Rattle.std.proofs.Common.{◌≡◌, ◌+◌, ◌*◌, ◌<◌, ◌∷◌, ◌++◌, Some, length, take, drop, set, sym, ap, ◌∙◌, subst, arith}
use Rattle.algebra.specs.Layout.{seen, view, preorder}
use Rattle.nodes.specs.Joins.{joined}
use Rattle.nodes.specs.Rows.{overlaid}
use Rattle.nodes.proofs.Joins.{joined_preorder, joined_nodes, seen_node_lem}
use Rattle.building.specs.Rows.{score_in}
use Rattle.rack.specs.Places.{number, Apart}
use Rattle.rack.specs.Shelves.{at}
use Rattle.rack.proofs.Shelves.{segment_within, length_shelf, standing, none_some}
use Rattle.rack.proofs.Placing.{counts_of, put_sound, put_shelf}
use Rattle.rack.proofs.Joining.{segments_apart}
use Rattle.rack.proofs.rack.Rack.join.Goals as goal

pub write_pair-requires-clause-room : goal.write_pair-requires-clause-room
write_pair-requires-clause-room g c =
    let K = g.K.Kind.model in
    let f = g.K.Kind.numbers_of in
    let ns = c.self.inside.nodes.now in
    let places = c.self.inside.places in
    let sound = c.self.invariant in
    let to = c.args.to in
    let j = c.in_ok-joined.ensures.ready in
    let there : to < number ns = omega (arith, c.in_ok-known.ensures.within, ap length c.self.view_is, length_shelf f ns places) in
    let x = standing K f ns places sound c.args.first j.left (ap (λ l. at l c.args.first) c.self.view_is ∙ j.left_held) in
    let y = standing K f ns places sound c.args.second j.right (ap (λ l. at l c.args.second) c.self.view_is ∙ j.right_held) in
    omega (arith, segment_within ns to there, c.of.ensures.count, c.of-2.ensures.count, j.left_nodes, j.right_nodes, joined_nodes c.args.join j.left j.right, j.fits.few_nodes)

pub write_pair-requires-clause-left_within : goal.write_pair-requires-clause-left_within
write_pair-requires-clause-left_within g c =
    let K = g.K.Kind.model in
    let f = g.K.Kind.numbers_of in
    let ns = c.self.inside.nodes.now in
    let places = c.self.inside.places in
    let sound = c.self.invariant in
    let to = c.args.to in
    let j = c.in_ok-joined.ensures.ready in
    let there : to < number ns = omega (arith, c.in_ok-known.ensures.within, ap length c.self.view_is, length_shelf f ns places) in
    let x = standing K f ns places sound c.args.first j.left (ap (λ l. at l c.args.first) c.self.view_is ∙ j.left_held) in
    let y = standing K f ns places sound c.args.second j.right (ap (λ l. at l c.args.second) c.self.view_is ∙ j.right_held) in
    omega (arith, segment_within ns c.args.first x.there, c.of.ensures.at, c.of.ensures.count, j.left_nodes, x.fits.few_nodes)

pub write_pair-requires-clause-right_within : goal.write_pair-requires-clause-right_within
write_pair-requires-clause-right_within g c =
    let K = g.K.Kind.model in
    let f = g.K.Kind.numbers_of in
    let ns = c.self.inside.nodes.now in
    let places = c.self.inside.places in
    let sound = c.self.invariant in
    let to = c.args.to in
    let j = c.in_ok-joined.ensures.ready in
    let there : to < number ns = omega (arith, c.in_ok-known.ensures.within, ap length c.self.view_is, length_shelf f ns places) in
    let x = standing K f ns places sound c.args.first j.left (ap (λ l. at l c.args.first) c.self.view_is ∙ j.left_held) in
    let y = standing K f ns places sound c.args.second j.right (ap (λ l. at l c.args.second) c.self.view_is ∙ j.right_held) in
    omega (arith, segment_within ns c.args.second y.there, c.of-2.ensures.at, c.of-2.ensures.count, j.right_nodes, y.fits.few_nodes)

pub write_pair-requires-clause-left_apart : goal.write_pair-requires-clause-left_apart
write_pair-requires-clause-left_apart g c =
    let K = g.K.Kind.model in
    let f = g.K.Kind.numbers_of in
    let ns = c.self.inside.nodes.now in
    let places = c.self.inside.places in
    let sound = c.self.invariant in
    let to = c.args.to in
    let j = c.in_ok-joined.ensures.ready in
    let there : to < number ns = omega (arith, c.in_ok-known.ensures.within, ap length c.self.view_is, length_shelf f ns places) in
    let x = standing K f ns places sound c.args.first j.left (ap (λ l. at l c.args.first) c.self.view_is ∙ j.left_held) in
    let y = standing K f ns places sound c.args.second j.right (ap (λ l. at l c.args.second) c.self.view_is ∙ j.right_held) in
    let n = c.of.result.count in
    let m = 1 + n + c.of-2.result.count in
    subst (λ a. Apart a n (to * 1023) m) (sym c.of.ensures.at) (segments_apart to c.args.first n m (λ e. none_some (sym j.empty ∙ sym (ap (at c.args.self.now) e) ∙ j.left_held))
    (omega (arith, c.of.ensures.count, j.left_nodes, x.fits.few_nodes))
    (omega (arith, c.of.ensures.count, c.of-2.ensures.count, j.left_nodes, j.right_nodes, joined_nodes c.args.join j.left j.right, j.fits.few_nodes)))

pub write_pair-requires-clause-right_apart : goal.write_pair-requires-clause-right_apart
write_pair-requires-clause-right_apart g c =
    let K = g.K.Kind.model in
    let f = g.K.Kind.numbers_of in
    let ns = c.self.inside.nodes.now in
    let places = c.self.inside.places in
    let sound = c.self.invariant in
    let to = c.args.to in
    let j = c.in_ok-joined.ensures.ready in
    let there : to < number ns = omega (arith, c.in_ok-known.ensures.within, ap length c.self.view_is, length_shelf f ns places) in
    let x = standing K f ns places sound c.args.first j.left (ap (λ l. at l c.args.first) c.self.view_is ∙ j.left_held) in
    let y = standing K f ns places sound c.args.second j.right (ap (λ l. at l c.args.second) c.self.view_is ∙ j.right_held) in
    let n = c.of-2.result.count in
    let m = 1 + c.of.result.count + n in
    subst (λ a. Apart a n (to * 1023) m) (sym c.of-2.ensures.at) (segments_apart to c.args.second n m (λ e. none_some (sym j.empty ∙ sym (ap (at c.args.self.now) e) ∙ j.right_held))
    (omega (arith, c.of-2.ensures.count, j.right_nodes, y.fits.few_nodes))
    (omega (arith, c.of.ensures.count, c.of-2.ensures.count, j.left_nodes, j.right_nodes, joined_nodes c.args.join j.left j.right, j.fits.few_nodes)))

pub bounds-self-inside-to : goal.bounds-self-inside-to
bounds-self-inside-to g c = omega (arith, c.in_ok-known.ensures.within, ap length c.self.view_is, length_shelf g.K.Kind.numbers_of c.self.inside.nodes.now c.self.inside.places)

pub invariant_of-self : goal.invariant_of-self
invariant_of-self g c =
    let K = g.K.Kind.model in
    let f = g.K.Kind.numbers_of in
    let ns = c.self.inside.nodes.now in
    let places = c.self.inside.places in
    let sound = c.self.invariant in
    let to = c.args.to in
    let j = c.in_ok-joined.ensures.ready in
    let there : to < number ns = omega (arith, c.in_ok-known.ensures.within, ap length c.self.view_is, length_shelf f ns places) in
    let x = standing K f ns places sound c.args.first j.left (ap (λ l. at l c.args.first) c.self.view_is ∙ j.left_held) in
    let y = standing K f ns places sound c.args.second j.right (ap (λ l. at l c.args.second) c.self.view_is ∙ j.right_held) in
    let left : take c.of.result.count (drop c.of.result.at (view f ns)) ≡ preorder j.left = (λ i. take ((c.of.ensures.count ∙ j.left_nodes) i) (drop (c.of.ensures.at i) (view f ns))) ∙ x.stands in
    let right : take c.of-2.result.count (drop c.of-2.result.at (view f ns)) ≡ preorder j.right = (λ i. take ((c.of-2.ensures.count ∙ j.right_nodes) i) (drop (c.of-2.ensures.at i) (view f ns))) ∙ y.stands in
    let parts = (λ i. (ap (seen f) c.node.ensures ∙ seen_node_lem f c.args.join) i ∷ (left i ++ right i)) ∙ sym (joined_preorder c.args.join j.left j.right) in
    let row = c.write_pair.ensures ∙ ap (overlaid (view f ns) (to * 1023)) parts in
    let note = counts_of K (joined c.args.join j.left j.right) c.in_ok-joined.joined.size c.into.result c.into.ensures j.size_is in
    put_sound K f ns c.write_pair.new.nodes places sound to there (joined c.args.join j.left j.right) c.into.result row note j.fits

pub returns-clause-after : goal.returns-clause-after
returns-clause-after g c =
    let K = g.K.Kind.model in
    let f = g.K.Kind.numbers_of in
    let ns = c.self.inside.nodes.now in
    let places = c.self.inside.places in
    let sound = c.self.invariant in
    let to = c.args.to in
    let j = c.in_ok-joined.ensures.ready in
    let there : to < number ns = omega (arith, c.in_ok-known.ensures.within, ap length c.self.view_is, length_shelf f ns places) in
    let x = standing K f ns places sound c.args.first j.left (ap (λ l. at l c.args.first) c.self.view_is ∙ j.left_held) in
    let y = standing K f ns places sound c.args.second j.right (ap (λ l. at l c.args.second) c.self.view_is ∙ j.right_held) in
    let left : take c.of.result.count (drop c.of.result.at (view f ns)) ≡ preorder j.left = (λ i. take ((c.of.ensures.count ∙ j.left_nodes) i) (drop (c.of.ensures.at i) (view f ns))) ∙ x.stands in
    let right : take c.of-2.result.count (drop c.of-2.result.at (view f ns)) ≡ preorder j.right = (λ i. take ((c.of-2.ensures.count ∙ j.right_nodes) i) (drop (c.of-2.ensures.at i) (view f ns))) ∙ y.stands in
    let parts = (λ i. (ap (seen f) c.node.ensures ∙ seen_node_lem f c.args.join) i ∷ (left i ++ right i)) ∙ sym (joined_preorder c.args.join j.left j.right) in
    let row = c.write_pair.ensures ∙ ap (overlaid (view f ns) (to * 1023)) parts in
    let note = counts_of K (joined c.args.join j.left j.right) c.in_ok-joined.joined.size c.into.result c.into.ensures j.size_is in
    put_shelf K f ns c.write_pair.new.nodes places sound to there (joined c.args.join j.left j.right) c.into.result row note j.fits
    ∙ (λ i. set (c.self.view_is i) to (Some (joined c.args.join (sym (ap score_in j.left_held) i) (sym (ap score_in j.right_held) i))))
