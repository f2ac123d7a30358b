-- Score files: what a file says, and the bytes that say it.
use Rattle.std.specs.Prelude.{◌≡◌, ℕ, ◌+◌, ◌<◌, ◌≤◌, List, [], ◌∷◌, ◌++◌, length, take, codes, decimal}
use Rattle.algebra.specs.declared.numbers.Numbers.{Numbers}
use Rattle.algebra.specs.Kind.{Name, Words}
use Rattle.algebra.specs.Score.{Score, Score.rest, Score.primitive, Score.sequence, Score.parallel}

-- A number with the comma after it. Numbers are in base ten, with no leading zero.
abbrev pub field : ℕ → List ℕ
field n = decimal n ++ (44 ∷ [])

-- The four numbers of a primitive, joined by commas.
abbrev pub fields : Numbers → List ℕ
fields p = field p.first ++ (field p.second ++ (field p.third ++ decimal p.fourth))

-- A term: `r` and a number; `p` and four numbers; or `(`, a term, `+` or `|`, a term, `)`.
abbrev pub print : Score → List ℕ
print (rest d) = 114 ∷ decimal d
print (primitive p) = 112 ∷ fields p
print (sequence a b) = 40 ∷ (print a ++ (43 ∷ (print b ++ (41 ∷ []))))
print (parallel a b) = 40 ∷ (print a ++ (124 ∷ (print b ++ (41 ∷ []))))

-- A rest is at most 16,777,215 long, and a primitive's numbers have 32 bits.
abbrev pub Grammatical : Score → Type 0
Grammatical (rest d) = d ≤ 16777215
Grammatical (primitive p) = Words p
Grammatical (sequence a b) = Grammatical a × Grammatical b
Grammatical (parallel a b) = Grammatical a × Grammatical b

-- What a file says: the kind's name, the length and the count of primitives, and its term.
pub record File : Type 0 where
  pub kind : List ℕ
  pub ticks : ℕ
  pub count : ℕ
  pub body : Score

-- A line of a key and what it holds.
abbrev pub line : List ℕ → List ℕ → List ℕ
line key w = key ++ (w ++ (10 ∷ []))

abbrev pub signature : List ℕ
signature = codes "score=6" ++ (10 ∷ [])

-- The lines before the body.
abbrev pub print_head : List ℕ → ℕ → ℕ → List ℕ
print_head kind ticks count =
    signature ++ (line (codes "kind=") kind ++ (line (codes "length=") (decimal ticks) ++ line (codes "prims=") (decimal count)))

-- What follows the term.
abbrev pub ending : List ℕ
ending = 10 ∷ (codes "end=score" ++ (10 ∷ []))

-- The six lines of a file, each ended by byte 10.
abbrev pub print_file : File → List ℕ
print_file f = print_head f.kind f.ticks f.count ++ (codes "body=" ++ (print f.body ++ ending))

-- A head within the grammar's limits: a name, a length up to 16,777,215 and a count up to 170.
pub record GrammaticalHead (kind : List ℕ) (ticks count : ℕ) : Type 0 where
  pub name : Name kind
  pub short : ticks ≤ 16777215
  pub few : count ≤ 170

pub record GrammaticalFile (f : File) : Type 0 where
  pub head : GrammaticalHead f.kind f.ticks f.count
  pub body : Grammatical f.body

-- The files of the grammar: the texts that some file within its limits prints to.
pub record IsFile (text : List ℕ) : Type 0 where
  pub file : File
  pub within : GrammaticalFile file
  pub printed : text ≡ print_file file

-- Some text of a language begins with p.
abbrev pub Begins : (List ℕ → Type 0) → List ℕ → Type 0
Begins L p = (more : List ℕ) × L (p ++ more)

-- The offset of the first byte of a text that cannot belong to a text of a language, or the text's length:
-- what stands before it begins one, and what stands up to and with it begins none.
pub record FirstMisfit (L : List ℕ → Type 0) (text : List ℕ) (offset : ℕ) : Type 0 where
  pub within : offset ≤ length text
  pub belongs : Begins L (take offset text)
  pub misfit : offset < length text → Begins L (take (offset + 1) text) → ⊥
  pub refused : L text → ⊥

-- Where the name, the two numbers and the term of a file begin.
abbrev pub kind_offset : ℕ
kind_offset = length (signature ++ codes "kind=")

abbrev pub ticks_offset : File → ℕ
ticks_offset f = length (signature ++ (line (codes "kind=") f.kind ++ codes "length="))

abbrev pub count_offset : File → ℕ
count_offset f = length (signature ++ (line (codes "kind=") f.kind ++ (line (codes "length=") (decimal f.ticks) ++ codes "prims=")))

abbrev pub body_offset : File → ℕ
body_offset f = length (print_head f.kind f.ticks f.count ++ codes "body=")
