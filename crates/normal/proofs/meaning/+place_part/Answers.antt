use Rattle.std.proofs.Common.{◌≡◌, ◌++◌, ap, ◌∙◌, sym, arith}
use Rattle.algebra.specs.Score.{Score.sequence, Score.parallel, nodes, primitives, score_length}
use Rattle.nodes.specs.Joins.{joined}
use Rattle.nodes.specs.Scores.{part_at}
use Rattle.nodes.proofs.Lists.{put_long, put_both}
use Rattle.normal.proofs.Placings.{length_from, from_sequence}
use Rattle.normal.proofs.meaning.+place_part.Goals as goal

pub place_part-requires-in-Pair-Sequence-default-default :
    goal.place_part-requires-in-Pair-Sequence-default-default
place_part-requires-in-Pair-Sequence-default-default g t c κs within =
    let x = c.in-Pair-Sequence-default-default in
    let s = c.args.score.now in
    let is : part_at s c.args.at ≡ sequence (part_at s x.left) (part_at s x.right) = x.ensures.is ∙ (λ i. joined (x.field-0-is i) (part_at s x.left) (part_at s x.right)) in (
      omega (arith, ap nodes is),
      (
        within,
        (
          x.ensures.right_inside,
          (
            omega (arith, ap (score_length g.K.Kind.model) is, c.length_at.ensures, c.requires.short),
            omega (arith, ap primitives is, put_long c.args.list.now _ c.place_part.ensures, length_from g.K.Kind.model c.args.onset (part_at s x.left), c.requires.room),
          ),
        ),
      ),
    )

pub place_part-requires-in-Pair-Parallel-default-default-2 :
    goal.place_part-requires-in-Pair-Parallel-default-default-2
place_part-requires-in-Pair-Parallel-default-default-2 g t c κs within =
    let x = c.in-Pair-Parallel-default-default in
    let s = c.args.score.now in
    let is : part_at s c.args.at ≡ parallel (part_at s x.left) (part_at s x.right) = x.ensures.is ∙ (λ i. joined (x.field-0-is i) (part_at s x.left) (part_at s x.right)) in (
      omega (arith, ap nodes is),
      (
        within,
        (
          x.ensures.right_inside,
          (
            omega (arith, ap (score_length g.K.Kind.model) is, c.requires.short),
            omega (arith, ap primitives is, put_long c.args.list.now _ c.place_part-in-Pair-Parallel-default-default.ensures, length_from g.K.Kind.model c.args.onset (part_at s x.left), c.requires.room),
          ),
        ),
      ),
    )

pub returns-in-Pair-Sequence-default-default : goal.returns-in-Pair-Sequence-default-default
returns-in-Pair-Sequence-default-default g t c =
    let x = c.in-Pair-Sequence-default-default in
    let s = c.args.score.now in
    let is : part_at s c.args.at ≡ sequence (part_at s x.left) (part_at s x.right) = x.ensures.is ∙ (λ i. joined (x.field-0-is i) (part_at s x.left) (part_at s x.right)) in
    put_both c.args.list.now _ _ c.place_part.ensures c.place_part-in-Pair-Sequence-default-default.ensures
    ∙ ap (λ xs. c.args.list.now ++ xs) (sym (from_sequence g.K.Kind.model c.args.onset _ _ is c.length_at.ensures))
