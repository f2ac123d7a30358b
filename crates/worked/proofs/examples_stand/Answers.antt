-- The kinds answer for their own examples; the files of the others compute, but for the rest that is too long to have one.
use Rattle.std.proofs.Common.{refl, rules}
use Rattle.std.specs.Fmt.{digits}
use Rattle.algebra.specs.Kind.{four}
use Rattle.algebra.specs.Score.{Score.rest, Score.primitive, Score.sequence}
use Rattle.grammar.specs.Loads.{Loads.refused}
use Rattle.kinds.specs.Examples.{turns}
use Rattle.worked.proofs.Texts.{gives, rest_refused}
use Rattle.worked.proofs.examples_stand.Goals as goal

pub returns : goal.returns
unfolding digits
returns c = record {
  kinds = c.examples_stand.ensures;
  long_score = record { loads = gives 0 0 (sequence (rest 16777215) (rest 1)) (search rules) (search rules); numbered = refl };
  long_rest = record { loads = refused rest_refused; numbered = refl };
  high_note = record { loads = gives 0 0 (primitive (four 128 96 480 0)) (search rules) (search rules); numbered = refl };
  silent_note = record { loads = gives 0 0 (primitive (four 60 0 480 0)) (search rules) (search rules); numbered = refl };
  loaded = gives 720 2 turns (search rules) (search rules);
  written = refl;
  split_allowed = refl;
  split_made = refl;
  split_past = record { answered = refl; numbered = refl };
  split_unasked = record { answered = refl; numbered = refl };
  compared_twice = refl;
}
