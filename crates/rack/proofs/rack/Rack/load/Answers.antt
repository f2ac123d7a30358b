use Rattle.std.proofs.Common.{rules, ◌*◌, Ok, Some, length, set, sym, ap, ◌∙◌, subst, arith}
use Rattle.algebra.specs.Layout.{view}
use Rattle.loading.specs.Gives.{Given}
use Rattle.nodes.specs.Rows.{overlaid}
use Rattle.rack.proofs.Shelves.{length_shelf}
use Rattle.rack.proofs.Placing.{put_sound, put_shelf}
use Rattle.rack.proofs.Loading.{holdable, items_fit, counts}
use Rattle.rack.proofs.rack.Rack.load.Goals as goal

pub place-requires-clause-room : goal.place-requires-clause-room
place-requires-clause-room g c =
    let given = subst (λ is. Given g.K.Kind.model c.args.reading.text.now is c.in_ok-loaded.loaded) (sym c.items.ensures.same) c.in_ok-loaded.ensures in
    items_fit g.K.Kind.model _ _ _ given c.self.inside.nodes.now c.args.to (omega (arith, c.in_ok-known.ensures.within, ap length c.self.view_is, length_shelf g.K.Kind.numbers_of c.self.inside.nodes.now c.self.inside.places))

pub bounds-self-inside-to : goal.bounds-self-inside-to
bounds-self-inside-to g c = omega (arith, c.in_ok-known.ensures.within, ap length c.self.view_is, length_shelf g.K.Kind.numbers_of c.self.inside.nodes.now c.self.inside.places)

pub invariant_of-self : goal.invariant_of-self
invariant_of-self g c =
    let K = g.K.Kind.model in
    let f = g.K.Kind.numbers_of in
    let ns = c.self.inside.nodes.now in
    let given = subst (λ is. Given K c.args.reading.text.now is c.in_ok-loaded.loaded) (sym c.items.ensures.same) c.in_ok-loaded.ensures in
    put_sound K f ns c.place.new.nodes c.self.inside.places c.self.invariant c.args.to (omega (arith, c.in_ok-known.ensures.within, ap length c.self.view_is, length_shelf f ns c.self.inside.places))
    given.score _ (c.place.ensures ∙ ap (overlaid (view f ns) (c.args.to * 1023)) given.laid) (counts K _ _ _ given) (holdable K _ _ _ given).fits

pub returns : goal.returns
returns g c =
    let K = g.K.Kind.model in
    let f = g.K.Kind.numbers_of in
    let ns = c.self.inside.nodes.now in
    let given = subst (λ is. Given K c.args.reading.text.now is c.in_ok-loaded.loaded) (sym c.items.ensures.same) c.in_ok-loaded.ensures in
    record {
      given = Ok given.score;
      gives = given.loads;
      answer_is = search rules;
      after_is = put_shelf K f ns c.place.new.nodes c.self.inside.places c.self.invariant c.args.to (omega (arith, c.in_ok-known.ensures.within, ap length c.self.view_is, length_shelf f ns c.self.inside.places))
          given.score _ (c.place.ensures ∙ ap (overlaid (view f ns) (c.args.to * 1023)) given.laid) (counts K _ _ _ given) (holdable K _ _ _ given).fits
          ∙ ap (λ l. set l c.args.to (Some given.score)) c.self.view_is;
    }
