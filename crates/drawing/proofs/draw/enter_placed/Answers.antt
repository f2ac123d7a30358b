use Rattle.std.proofs.Common.{arith}
use Rattle.normal.proofs.Placings.{legal_at}
use Rattle.drawing.proofs.draw.enter_placed.Goals as goal

pub primitive_of-primitive-requires : goal.primitive_of-primitive-requires
primitive_of-primitive-requires g c = legal_at g.K.Kind.model c.items-item-items.result.now c.loop-item.item-index _ (omega arith) c.items-item-items.ensures.legal
