-- What a reader of a language does with the text before it: it goes over a word, or stops where none can be.
use Rattle.std.specs.Prelude.{◌≡◌, ℕ, ◌+◌, ◌≤◌, List, [], ◌∷◌, ◌++◌, length, drop, ◌≢◌}
use Rattle.refusals.specs.declared.refusal.Refusal.{Refusal}
use Rattle.refusals.specs.declared.refusal.Refusal.TheVariants.{Misfit}
use Rattle.refusals.specs.declared.refusal.Section.{Section}
use Rattle.algebra.specs.Kind.{Letter}
use Rattle.reading.specs.declared.reader.Reader.{Reader}
use Rattle.reading.specs.Languages.{Digit}

-- what comes next, if anything does, is in G
abbrev pub Opens : (ℕ → Type 0) → List ℕ → Type 0
Opens G [] = Unit {0}
Opens G (b ∷ s) = G b

abbrev pub Any : ℕ → Type 0
Any b = Unit {0}

-- nothing comes next
abbrev pub Nothing : ℕ → Type 0
Nothing b = ⊥

abbrev pub NoLetter : ℕ → Type 0
NoLetter b = Letter b → ⊥

-- a number, and so a term, goes on for as long as digits come
abbrev pub NoDigit : ℕ → Type 0
NoDigit b = Digit b → ⊥

-- x goes on as left does: with the same byte, or not at all
abbrev pub Agrees : List ℕ → List ℕ → Type 0
Agrees [] x = x ≡ []
Agrees (b ∷ left) x = (more : List ℕ) × (x ≡ b ∷ more)

-- where w is read and the text goes on as left does, no other word of L that G may follow was there
abbrev pub Sure : (List ℕ → Type 0) → (ℕ → Type 0) → List ℕ → List ℕ → Type 0
Sure L G w left = (v z x : List ℕ) → Agrees left x → L v → Opens G z → w ++ x ≡ v ++ z → w ≡ v

-- where p is read and the text goes on as left does, no word of L that G may follow is there
abbrev pub Stuck : (List ℕ → Type 0) → (ℕ → Type 0) → List ℕ → List ℕ → Type 0
Stuck L G p left = (u z x : List ℕ) → Agrees left x → L u → Opens G z → p ++ x ≢ u ++ z

-- a reader went over the word w of L
pub record Passed (L : List ℕ → Type 0) (G : ℕ → Type 0) (w text : List ℕ) (from to : ℕ) : Type 0 where
  pub moved : to ≡ from + length w
  pub within : to ≤ length text
  pub is : L w
  pub split : drop from text ≡ w ++ drop to text
  pub sure : Sure L G w (drop to text)

-- a reader of L stopped at an offset: what it read begins a word of L, and with the byte or the end that comes next it does not
pub record Stopped (L : List ℕ → Type 0) (G : ℕ → Type 0) (text : List ℕ) (from offset : ℕ) : Type 0 where
  pub after : from ≤ offset
  pub within : offset ≤ length text
  pub front : List ℕ
  pub split : drop from text ≡ front ++ drop offset text
  pub more : List ℕ
  pub begun : L (front ++ more)
  pub stuck : Stuck L G front (drop offset text)

-- a reader of L in a section of the file refused the text
pub record Faulty (L : List ℕ → Type 0) (G : ℕ → Type 0) (text : List ℕ) (from : ℕ) (section : Section) (e : Refusal) : Type 0 where
  pub offset : ℕ
  pub is : e ≡ Misfit section offset
  pub stopped : Stopped L G text from offset

-- a reader went over the word w of L, and keeps its text and its section
pub record Over (L : List ℕ → Type 0) (G : ℕ → Type 0) (w : List ℕ) (before after : Reader) : Type 0 where
  pub text : after.text ≡ before.text
  pub section : after.section ≡ before.section
  pub passed : Passed L G w before.text.now before.at after.at

abbrev pub Fault : (List ℕ → Type 0) → (ℕ → Type 0) → Reader → Refusal → Type 0
Fault L G before e = Faulty L G before.text.now before.at before.section e
