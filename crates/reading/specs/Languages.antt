-- The parts of a score file that have readers of their own, each as the texts that belong to it.
use Rattle.std.specs.Prelude.{◌≡◌, ℕ, ◌≤◌, List, [], ◌∷◌, ◌++◌, codes, decimal}
use Rattle.std.specs.List.{ContainsAt as Has, AllByRecursion}
use Rattle.algebra.specs.Kind.{Name}
use Rattle.algebra.specs.Score.{Score}
use Rattle.grammar.specs.Files.{print, Grammatical, signature, ending}

-- the bytes of a text and nothing else
abbrev pub Just : List ℕ → List ℕ → Type 0
Just text w = w ≡ text

-- a word of L, and then a word of M
pub record Then (L M : List ℕ → Type 0) (w : List ℕ) : Type 0 where
  pub front : List ℕ
  pub back : List ℕ
  pub first : L front
  pub second : M back
  pub split : w ≡ front ++ back

-- one byte of the wanted ones
abbrev pub OneOf : List ℕ → List ℕ → Type 0
OneOf wanted w = (b : ℕ) × Has wanted b × (w ≡ b ∷ [])

abbrev pub Digit : ℕ → Type 0
Digit b = (48 ≤ b) × (b ≤ 57)

-- digits, or none
abbrev pub Digits : List ℕ → Type 0
Digits w = AllByRecursion Digit w

-- a number up to a limit, in base ten with no leading zero
abbrev pub Numeral : ℕ → List ℕ → Type 0
Numeral limit w = (n : ℕ) × (n ≤ limit) × (w ≡ decimal n)

-- a line that holds a name, and one that holds a number
abbrev pub KindLine : List ℕ → Type 0
KindLine = Then (Just (codes "kind=")) (Then Name (Just (10 ∷ [])))

abbrev pub NumberLine : List ℕ → ℕ → List ℕ → Type 0
NumberLine key limit = Then (Just key) (Then (Numeral limit) (Just (10 ∷ [])))

-- the lines before the body
abbrev pub Head : List ℕ → Type 0
Head = Then (Just signature) (Then KindLine (Then (NumberLine (codes "length=") 16777215) (NumberLine (codes "prims=") 170)))

-- a term
abbrev pub Body : List ℕ → Type 0
Body w = (t : Score) × Grammatical t × (w ≡ print t)

-- the body and the last line, behind which nothing comes
abbrev pub Tail : List ℕ → Type 0
Tail = Then (Just (codes "body=")) (Then Body (Then (Just ending) (Just [])))

-- a number and a comma, and a primitive's four numbers
abbrev pub Field : List ℕ → Type 0
Field = Then (Numeral 4294967295) (OneOf (codes ","))

abbrev pub Fields : List ℕ → Type 0
Fields = Then Field (Then Field (Then Field (Numeral 4294967295)))

-- `+` or `|`, and what follows the `(` of a pair
abbrev pub Sign : List ℕ → Type 0
Sign = OneOf (codes "+|")

abbrev pub Inside : List ℕ → Type 0
Inside = Then Body (Then Sign (Then Body (OneOf (codes ")"))))
