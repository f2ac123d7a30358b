-- Worked examples of notes and clips, as one table of equations.
use Rattle.std.specs.Prelude.{◌≡◌, ℕ, Some, None}
use Rattle.algebra.specs.declared.rule.Rule.TheVariants.{RestSplit}
use Rattle.algebra.specs.declared.rule.Way.TheVariants.{Back}
use Rattle.algebra.specs.Kind.{four}
use Rattle.algebra.specs.Score.{Score, Score.rest, Score.primitive, Score.sequence, Score.parallel, score_length}
use Rattle.algebra.specs.Normal.{normal, normal_after}
use Rattle.algebra.specs.Cuts.{taken, dropped, reversed}
use Rattle.algebra.specs.Rewrite.{rewritten}
use Rattle.algebra.specs.Compare.{Answer.differs, compared}
use Rattle.kinds.specs.Note.{note}
use Rattle.kinds.specs.Clip.{clip}

-- p60,96,480,0: a note of pitch 60, velocity 96 and 480 ticks
abbrev long : Score
long = primitive (four 60 96 480 0)

-- p64,90,240,0: a higher note of 240 ticks
abbrev short : Score
short = primitive (four 64 90 240 0)

-- p7,OFFSET,LENGTH,WAY: a clip from source 7
abbrev sample : ℕ → ℕ → ℕ → Score
sample offset length way = primitive (four 7 offset length way)

-- ((long+r240)|(r480+short)): one note after the other, each beside a rest
abbrev pub turns : Score
turns = parallel (sequence long (rest 240)) (sequence (rest 480) short)

pub record Examples : Type 0 where
  -- a note beside itself against the note alone: the note at onset 0 is there twice and once
  pub twice : compared note (parallel long long) long ≡ differs (record { onset = 0; what = four 60 96 480 0 }) 2 1
  -- two notes that take turns last 720 ticks
  pub whole : score_length note turns ≡ 720
  -- their normal form has a line for each: ((r0+(long+r240))|(r480+(short+r0)))
  pub lines : normal note turns ≡ parallel (sequence (rest 0) (sequence long (rest 240))) (sequence (rest 480) (sequence short (rest 0)))
  -- (short|long) after the model (long|short) has its lines in the model's order: ((r0+(long+r0))|(r0+(short+r240)))
  pub after :
      normal_after note (parallel short long) (parallel long short) ≡ parallel (sequence (rest 0) (sequence long (rest 0))) (sequence (rest 0) (sequence short (rest 240)))
  -- (long|short) reversed ends together: (long|(r240+short))
  pub turned : reversed note (parallel long short) ≡ parallel long (sequence (rest 240) short)
  -- the first 300 ticks of a forward clip keep its offset
  pub head_forward : taken clip 300 (sample 1000 500 0) ≡ sample 1000 300 0
  -- what follows them begins 300 ticks further on
  pub tail_forward : dropped clip 300 (sample 1000 500 0) ≡ sample 1300 200 0
  -- the first 300 ticks of a backward clip are the last of its part of the source
  pub head_backward : taken clip 300 (sample 1000 500 1) ≡ sample 1200 300 1
  -- what follows them keeps the offset
  pub tail_backward : dropped clip 300 (sample 1000 500 1) ≡ sample 1000 200 1
  -- a rest of 720 ticks split at 480: (r480+r240)
  pub split : rewritten note RestSplit Back 480 0 (rest 720) ≡ Some (sequence (rest 480) (rest 240))
  -- past its end a rest cannot be split
  pub split_past : rewritten note RestSplit Back 721 0 (rest 720) ≡ None
