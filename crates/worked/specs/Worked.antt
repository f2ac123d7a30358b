-- Worked cases of files, refusals and calls on a rack, in one table with the worked examples of notes and clips.
use Rattle.std.specs.Prelude.{◌≡◌, ℕ, List, [], ◌∷◌, ◌++◌, Some, Ok, Err, codes}
use Prim.Native.String.{String}
use Rattle.algebra.specs.Kind.{four}
use Rattle.algebra.specs.Score.{Score, Score.rest, Score.primitive, Score.sequence, Score.parallel}
use Rattle.refusals.specs.declared.refusal.Refusal.{Refusal}
use Rattle.refusals.specs.declared.refusal.Refusal.TheVariants.{Misfit, IllegalNumbers, TooLongInFile, BadValue, NoFit}
use Rattle.refusals.specs.declared.refusal.Section.TheVariants.{Body}
use Rattle.refusals.specs.Numbers.{number_of}
use Rattle.refusals.specs.Checks.{passed}
use Rattle.kinds.specs.Note.{note}
use Rattle.kinds.specs.Examples.{Examples, turns}
use Rattle.grammar.specs.Loads.{Loads, file_bytes}
use Rattle.comparing.specs.declared.comparison.Comparison.TheVariants.{Differs}
use Rattle.building.specs.Steps.{step_named}
use Rattle.rack.specs.Shelves.{Shelf}
use Rattle.rack.specs.Steps.{stepped_at, rewrite_answer}
use Rattle.rack.specs.Comparing.{compare_answer}

-- A line of a key and what it holds, ended by byte 10.
abbrev row : String → String → List ℕ
row key value = codes key ++ (codes value ++ (10 ∷ []))

-- A note file's bytes, by what it says of its length, its count of primitives and its body.
abbrev pub note_file : String → String → String → List ℕ
note_file ticks count body =
    row "score=" "6" ++ (row "kind=" "note" ++ (row "length=" ticks ++ (row "prims=" count ++ (row "body=" body ++ row "end=" "score"))))

-- Such a file whose head says a length of 0 and no primitives: its body begins at byte 40.
abbrev pub note_body : String → List ℕ
note_body body = note_file "0" "0" body

-- A rack of notes refuses a text, and the refusal has this number.
pub record Refuses (text : List ℕ) (e : Refusal) (number : ℕ) : Type 0 where
  pub loads : Loads note text (Err e)
  pub numbered : number_of e ≡ number

-- The file of two notes that take turns, each beside a rest.
abbrev pub turns_file : List ℕ
turns_file = note_file "720" "2" "((p60,96,480,0+r240)|(r480+p64,90,240,0))"

-- A rack of one place that holds a rest of 720 ticks.
abbrev pub rest_shelf : Shelf
rest_shelf = Some (rest 720) ∷ []

-- p60,96,480,0: a note of 480 ticks
abbrev note480 : Score
note480 = primitive (four 60 96 480 0)

-- A rack of two places: a note beside itself, and the note alone.
abbrev pub note_shelf : Shelf
note_shelf = Some (parallel note480 note480) ∷ Some note480 ∷ []

-- A rewriting at the root of the rest of 720 ticks, by rule, way and split, is refused, and the refusal has this number.
pub record Unfit (rule way split : ℕ) (e : Refusal) (number : ℕ) : Type 0 where
  pub answered : rewrite_answer note rest_shelf 0 0 rule way split ≡ Err e
  pub numbered : number_of e ≡ number

pub record Worked : Type 0 where
  -- the worked examples of notes and clips
  pub kinds : Examples
  -- two rests that last 16,777,216 ticks together: refused where the term begins
  pub long_score : Refuses (note_body "(r16777215+r1)") (TooLongInFile 40) 8
  -- one rest of 16,777,216 ticks: refused at its last digit, as no file has so long a rest
  pub long_rest : Refuses (note_body "r16777216") (Misfit Body 48) 5
  -- a note of pitch 128
  pub high_note : Refuses (note_body "p128,96,480,0") (IllegalNumbers 40) 7
  -- a note of velocity 0
  pub silent_note : Refuses (note_body "p60,0,480,0") (IllegalNumbers 40) 7
  -- two notes that take turns are loaded from their file
  pub loaded : Loads note turns_file (Ok turns)
  -- and written as that file
  pub written : file_bytes note turns ≡ turns_file
  -- a rest of 720 ticks may be split at 480 on a rack
  pub split_allowed : rewrite_answer note rest_shelf 0 0 7 1 480 ≡ passed
  -- and is then (r480+r240)
  pub split_made : stepped_at note rest_shelf 0 0 (step_named 7 1 480) ≡ Some (sequence (rest 480) (rest 240))
  -- past its end it cannot be split
  pub split_past : Unfit 7 1 721 (NoFit 0) 25
  -- the sixth rule takes no split
  pub split_unasked : Unfit 6 0 5 (BadValue 5) 10
  -- a note beside itself against the note alone: the note at onset 0 is there twice and once
  pub compared_twice : compare_answer note note_shelf 0 1 ≡ Ok (Differs (record { onset = 0; numbers = four 60 96 480 0 }) 2 1)
