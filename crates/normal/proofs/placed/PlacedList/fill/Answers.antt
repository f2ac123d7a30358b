use Rattle.std.proofs.Common.{◌≡◌, length, ◌++◌, ap, ◌∙◌, arith}
use Rattle.algebra.specs.Score.{primitives, score_length, placed}
use Rattle.algebra.proofs.Sizes.{length_placed}
use Rattle.nodes.specs.Scores.{part_at}
use Rattle.nodes.proofs.Parts.{some_node}
use Rattle.nodes.proofs.Shapes.{score_preorder}
use Rattle.normal.proofs.Placings.{placed_from, later_none}
use Rattle.normal.proofs.placed.PlacedList.fill.Goals as goal

pub place_part-requires : goal.place_part-requires
place_part-requires g c =
    let s = c.args.score.now in
    let whole : part_at s 0 ≡ s = score_preorder s in
    record {
      inside = omega (arith, some_node s);
      short = omega (arith, ap (score_length g.K.Kind.model) whole, c.length-length.ensures.length, c.length-length.ensures.limited.short);
      room = omega (arith, ap primitives whole, ap length c.requires, c.length-length.ensures.limited.few);
    }

pub returns-clause-placed : goal.returns-clause-placed
returns-clause-placed g c =
    let s = c.args.score.now in
    let whole : part_at s 0 ≡ s = score_preorder s in
    c.place_part.ensures ∙ (λ i. c.requires i ++ placed_from g.K.Kind.model 0 (whole i)) ∙ later_none (placed g.K.Kind.model s)

pub returns-clause-count : goal.returns-clause-count
returns-clause-count g c = ap length (returns-clause-placed g c) ∙ length_placed g.K.Kind.model c.args.score.now
