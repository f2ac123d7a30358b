-- Lines: a key, a word and a line's end.
use Rattle.std.proofs.Common.{ℕ, List, [], ◌∷◌, ◌++◌, refl}
use Rattle.refusals.specs.declared.refusal.Refusal.{Refusal}
use Rattle.grammar.specs.Files.{line}
use Rattle.reading.specs.declared.reader.Reader.{Reader}
use Rattle.reading.specs.Languages.{Just, Then}
use Rattle.reading.specs.Passing.{Any, Over, Fault}
use Rattle.reading.proofs.Composition.{Follows, follows_any, follows_just, over_then, fault_then, fault_first}

-- the word m of M serves where the key is refused
module _ (key : List ℕ) (M : List ℕ → Type 0) (G : ℕ → Type 0) (newline : G 10) (m : List ℕ) (some : M m) where
  abbrev pub Line : List ℕ → Type 0
  Line = Then (Just key) (Then M (Just (10 ∷ [])))

  end_follows : Follows G (Just (10 ∷ []))
  end_follows = follows_just G 10 [] newline

  pub line_key : (s : Reader) {e : Refusal} → Fault (Just key) Any s e → Fault Line Any s e
  line_key s h = fault_first (follows_any _) (m ++ (10 ∷ [])) (record { front = m; back = 10 ∷ []; first = some; second = refl; split = refl }) h

  pub line_word : {s t : Reader} {e : Refusal} → Over (Just key) Any key s t → Fault M G t e → Fault Line Any s e
  line_word p h = fault_then (follows_any _) p (fault_first end_follows (10 ∷ []) refl h)

  pub line_end : {w : List ℕ} {s t u : Reader} {e : Refusal} → Over (Just key) Any key s t → Over M G w t u → Fault (Just (10 ∷ [])) Any u e → Fault Line Any s e
  line_end p q h = fault_then (follows_any _) p (fault_then end_follows q h)

  pub line_over : {w : List ℕ} {s t u v : Reader} → Over (Just key) Any key s t → Over M G w t u → Over (Just (10 ∷ [])) Any (10 ∷ []) u v → Over Line Any (line key w) s v
  line_over p q r = over_then (follows_any _) p (over_then end_follows q r)
