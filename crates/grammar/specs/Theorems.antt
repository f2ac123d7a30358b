-- What is proved of texts and scores, for every kind.
use Rattle.std.specs.Prelude.{◌≡◌, ℕ, List, Ok, Result}
use Rattle.refusals.specs.declared.refusal.Refusal.{Refusal}
use Rattle.algebra.specs.Kind.{KindModel, KindLaws}
use Rattle.algebra.specs.Score.{Score}
use Rattle.algebra.specs.Limits.{Holdable}
use Rattle.grammar.specs.Loads.{Loads, file_bytes}

-- A text gives one answer at most: one score or one refusal.
abbrev pub OneAnswer : Type 0
OneAnswer = (K : KindModel) (text : List ℕ) (q r : Result Score Refusal) → Loads K text q → Loads K text r → q ≡ r

-- Only scores that may be held are read, and each from one text alone: its file.
abbrev pub ReadExactly : Type 0
ReadExactly = (K : KindModel) (text : List ℕ) (s : Score) → Loads K text (Ok s) → Holdable K s × (text ≡ file_bytes K s)

-- The file of a score that may be held is read as that score.
abbrev pub WrittenBack : Type 0
WrittenBack = (K : KindModel) → KindLaws K → (s : Score) → Holdable K s → Loads K (file_bytes K s) (Ok s)
