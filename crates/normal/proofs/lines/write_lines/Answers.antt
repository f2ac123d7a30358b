use Rattle.std.proofs.Common.{arith}
use Rattle.nodes.proofs.Lists.{put_long}
use Rattle.normal.proofs.Writings.{legal_last, legal_rest, room, one_more, the_last}
use Rattle.normal.proofs.lines.write_lines.Goals as goal

pub push-requires-in-loop-item : goal.push-requires-in-loop-item
push-requires-in-loop-item g c =
    let r = room g.K.Kind.model c.args.placed.now c.in-Some.rest.now _ c.in-Some.ensures.cases.0 c.args.length c.args.out.now c.loop-item.out c.loop-item.item-index c.loop-item.invariant (omega arith) c.requires.room in
    omega arith

pub write_line-requires : goal.write_line-requires
write_line-requires g c =
    let r = room g.K.Kind.model c.args.placed.now c.in-Some.rest.now _ c.in-Some.ensures.cases.0 c.args.length c.args.out.now c.loop-item.out c.loop-item.item-index c.loop-item.invariant (omega arith) c.requires.room in
    record {
      legal = legal_rest g.K.Kind.model c.args.placed.now c.in-Some.rest.now _ c.in-Some.ensures.cases.0 c.requires.legal c.loop-item.item-index _ (omega arith);
      room = omega (arith, put_long c.loop-item.out.items _ c.push-in-loop-item.ensures.items, c.push-in-loop-item.ensures.room);
    }

pub loop-item-preserved : goal.loop-item-preserved
loop-item-preserved g c =
    one_more g.K.Kind.model c.args.placed.now c.in-Some.rest.now _ c.in-Some.ensures.cases.0 c.args.length c.args.out.now c.loop-item.out c.loop-item.item-index c.loop-item.invariant _ (omega arith) c.push-in-loop-item.ensures.items c.push-in-loop-item.ensures.room c.write_line.ensures.items c.write_line.ensures.room

pub write_line-requires-in-Some : goal.write_line-requires-in-Some
write_line-requires-in-Some g c =
    let r = room g.K.Kind.model c.args.placed.now c.in-Some.rest.now _ c.in-Some.ensures.cases.0 c.args.length c.args.out.now c.loop-item.out c.loop-item.item-index c.loop-item.invariant (omega arith) c.requires.room in
    record { legal = legal_last g.K.Kind.model c.args.placed.now c.in-Some.rest.now _ c.in-Some.ensures.cases.0 c.requires.legal; room = omega arith }

pub returns-after-loop-item-clause-items : goal.returns-after-loop-item-clause-items
returns-after-loop-item-clause-items g c =
    the_last g.K.Kind.model c.args.placed.now c.in-Some.rest.now _ c.in-Some.ensures.cases.0 c.args.length c.args.out.now c.loop-item.out c.loop-item.item-index c.loop-item.invariant (omega arith) c.write_line-in-Some.ensures.items
