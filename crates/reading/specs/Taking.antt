-- What a reader hands out: words, each with its bytes and their offset, and numbers.
use Rattle.std.specs.Prelude.{◌≡◌, ℕ, ◌+◌, ◌<◌, ◌≤◌, List, [], ◌∷◌, length, drop, decimal, slice_index}
use Rattle.std.specs.List.{ContainsAt as Has, between}
use Rattle.refusals.specs.declared.refusal.Refusal.{Refusal}
use Rattle.refusals.specs.declared.refusal.Refusal.TheVariants.{Misfit}
use Rattle.refusals.specs.declared.refusal.Section.{Section}
use Rattle.algebra.specs.Kind.{Name}
use Rattle.grammar.specs.declared.head.Figure.{Figure}
use Rattle.reading.specs.declared.reader.Reader.{Reader}
use Rattle.reading.specs.declared.word.Lexeme.{Lexeme}
use Rattle.reading.specs.declared.word.Word.{Word}
use Rattle.reading.specs.declared.word.Word.TheVariants as word
use Rattle.reading.specs.Languages.{Just, OneOf, Digits, Numeral}
use Rattle.reading.specs.Passing.{Opens, Any, NoDigit, NoLetter, Stopped, Over}

abbrev pub lexeme_of : Word → Lexeme
lexeme_of (word.Mark l) = l
lexeme_of (word.Digits l) = l
lexeme_of (word.Key l) = l
lexeme_of (word.Name l) = l

-- the bytes from an offset to where the reader stands
pub record Covers (reader : Reader) (start : ℕ) (l : Lexeme) : Type 0 where
  pub bytes : l.bytes.now ≡ between start reader.at reader.text.now
  pub offset : l.offset ≡ start

-- a reader took a word w of L, and handed it out as it is made by a case of `Word`
pub record Taken (make : Lexeme → Word) (L : List ℕ → Type 0) (G : ℕ → Type 0) (w : List ℕ) (before after : Reader) (r : Word) : Type 0 where
  pub lexeme : Lexeme
  pub is : r ≡ make lexeme
  pub bytes : lexeme.bytes.now ≡ w
  pub offset : lexeme.offset ≡ before.at
  pub over : Over L G w before after

-- one byte of the wanted ones, and why there is none
pub record MarkTaken (wanted : List ℕ) (before after : Reader) (r : Word) : Type 0 where
  pub byte : ℕ
  pub one : Has wanted byte
  pub taken : Taken word.Mark (OneOf wanted) Any (byte ∷ []) before after r

pub record NoMark (wanted : List ℕ) (before : Reader) (e : Refusal) : Type 0 where
  pub is : e ≡ Misfit before.section before.at
  pub none : before.at < length before.text.now → Has wanted (slice_index before.text.now before.at) → ⊥

-- a fixed text
abbrev pub KeyTaken : List ℕ → Reader → Reader → Word → Type 0
KeyTaken wanted before after r = Taken word.Key (Just wanted) Any wanted before after r

-- all the digits that come next
pub record DigitsTaken (before after : Reader) (r : Word) : Type 0 where
  pub digits : List ℕ
  pub taken : Taken word.Digits Digits NoDigit digits before after r
  pub ends : Opens NoDigit (drop after.at before.text.now)

-- a kind's name
abbrev pub NameTaken : Reader → Reader → Word → Type 0
NameTaken before after r = (name : List ℕ) × Taken word.Name Name NoLetter name before after r

-- a number up to a limit
pub record NumberTaken (limit : ℕ) (before after : Reader) (f : Figure) : Type 0 where
  pub offset : f.offset ≡ before.at
  pub small : f.value ≤ limit
  pub over : Over (Numeral limit) NoDigit (decimal f.value) before after

-- a digit of the run ds, which begins at an offset, cannot belong to a number up to the limit
pub record BadDigit (limit : ℕ) (ds : List ℕ) (from : ℕ) (section : Section) (e : Refusal) : Type 0 where
  pub index : ℕ
  pub is : e ≡ Misfit section (from + index)
  pub inside : index < length ds
  pub stopped : Stopped (Numeral limit) NoDigit ds 0 index
