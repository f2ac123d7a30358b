-- What the readers of terms hand out, and what they leave in a draft.
use Rattle.std.specs.Prelude.{◌≡◌, ℕ, ◌+◌, ◌≤◌, ◌⊎◌, List, ◌∷◌, ◌++◌, take, drop, codes}
use Rattle.algebra.specs.declared.numbers.Numbers.{Numbers}
use Rattle.algebra.specs.declared.node.Node.{Node}
use Rattle.algebra.specs.declared.node.Node.TheVariants.{Sequence, Parallel}
use Rattle.algebra.specs.Kind.{Words}
use Rattle.algebra.specs.Score.{Score}
use Rattle.grammar.specs.declared.draft.Draft.{Draft}
use Rattle.grammar.specs.Files.{field, fields, print, Grammatical, ending}
use Rattle.grammar.specs.Items.{items}
use Rattle.reading.specs.declared.reader.Reader.{Reader}
use Rattle.reading.specs.Languages.{Field, Fields, Sign, Body, Inside}
use Rattle.reading.specs.Passing.{Any, NoDigit, Over}

-- a number and a comma
pub record FieldTaken (before after : Reader) (n : ℕ) : Type 0 where
  pub small : n ≤ 4294967295
  pub over : Over Field Any (field n) before after

-- the four numbers of a primitive
pub record FieldsTaken (before after : Reader) (p : Numbers) : Type 0 where
  pub words : Words p
  pub over : Over Fields NoDigit (fields p) before after

-- `+`, which makes a sequence, or `|`, which makes a parallel
abbrev pub SignTaken : Reader → Reader → Node Numbers → Type 0
SignTaken before after n =
    ((n ≡ Sequence) × Over Sign Any (codes "+") before after) ⊎ ((n ≡ Parallel) × Over Sign Any (codes "|") before after)

-- a term, whose nodes are put behind those of the draft, as far as there is room
pub record TermTaken (before after : Reader) (draft draft' : Draft) : Type 0 where
  pub term : Score
  pub grammatical : Grammatical term
  pub over : Over Body NoDigit (print term) before after
  pub drafted : draft' ≡ take 1024 (draft ++ items before.at term)

-- what follows the parenthesis of a pair, which stands at an offset
pub record PairTaken (offset : ℕ) (before after : Reader) (draft draft' : Draft) : Type 0 where
  pub term : Score
  pub grammatical : Grammatical term
  pub inside : List ℕ
  pub printed : print term ≡ 40 ∷ inside
  pub over : Over Inside Any inside before after
  pub drafted : draft' ≡ take 1024 (draft ++ items offset term)

-- the rest of a text from an offset on: a body, whose nodes are put behind those of the draft, and the last line
pub record BodyTaken (text : List ℕ) (at : ℕ) (draft draft' : Draft) : Type 0 where
  pub term : Score
  pub grammatical : Grammatical term
  pub split : drop at text ≡ codes "body=" ++ (print term ++ ending)
  pub drafted : draft' ≡ take 1024 (draft ++ items (at + 5) term)
