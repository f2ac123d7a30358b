use Rattle.std.proofs.Common.{◌*◌, Some, length, set, sym, ap, ◌∙◌, arith}
use Rattle.std.proofs.lemmas.List.{length-map}
use Rattle.algebra.specs.Layout.{seen, view}
use Rattle.nodes.specs.Rows.{overlaid}
use Rattle.nodes.proofs.Overlays.{overlaid-map}
use Rattle.nodes.proofs.Parts.{length_preorder}
use Rattle.rack.proofs.Shelves.{segment_within, length_shelf}
use Rattle.rack.proofs.Placing.{counts_of, put_sound, put_shelf}
use Rattle.nodes.proofs.Shapes.{same_score}
use Rattle.rack.proofs.rack.Rack.put.Goals as goal

pub write_over-requires : goal.write_over-requires
write_over-requires g c =
    let f = g.K.Kind.numbers_of in
    let ns = c.self.inside.nodes.now in
    let (s, ready) = c.requires.ready in
    omega (
      arith,
      segment_within ns c.args.to (omega (arith, c.requires.known, ap length c.self.view_is, length_shelf f ns c.self.inside.places)),
      length-map c.args.nodes.now (seen f),
      ap length ready.nodes,
      length_preorder s,
      ready.fits.few_nodes,
    )

pub bounds-self-inside-to : goal.bounds-self-inside-to
bounds-self-inside-to g c = omega (arith, c.requires.known, ap length c.self.view_is, length_shelf g.K.Kind.numbers_of c.self.inside.nodes.now c.self.inside.places)

pub invariant_of-self : goal.invariant_of-self
invariant_of-self g c =
    let f = g.K.Kind.numbers_of in
    let ns = c.self.inside.nodes.now in
    let to = c.args.to in
    let (s, ready) = c.requires.ready in
    put_sound g.K.Kind.model f ns c.write_over.new.row c.self.inside.places c.self.invariant to (omega (arith, c.requires.known, ap length c.self.view_is, length_shelf f ns c.self.inside.places))
    s c.into.result (ap (view f) c.write_over.ensures ∙ overlaid-map (seen f) ns (to * 1023) c.args.nodes.now ∙ ap (overlaid (view f ns) (to * 1023)) ready.nodes) (counts_of g.K.Kind.model s c.args.size c.into.result c.into.ensures ready.size_is) ready.fits

pub returns : goal.returns
returns g c s is =
    let f = g.K.Kind.numbers_of in
    let ns = c.self.inside.nodes.now in
    let to = c.args.to in
    let (t, ready) = c.requires.ready in
    put_shelf g.K.Kind.model f ns c.write_over.new.row c.self.inside.places c.self.invariant to (omega (arith, c.requires.known, ap length c.self.view_is, length_shelf f ns c.self.inside.places))
    t c.into.result (ap (view f) c.write_over.ensures ∙ overlaid-map (seen f) ns (to * 1023) c.args.nodes.now ∙ ap (overlaid (view f ns) (to * 1023)) ready.nodes) (counts_of g.K.Kind.model t c.args.size c.into.result c.into.ensures ready.size_is) ready.fits
    ∙ (λ i. set (c.self.view_is i) to (Some (same_score (sym ready.nodes ∙ is) i)))
