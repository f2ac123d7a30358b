-- The parts of a term: numbers with commas, and signs.
use Rattle.std.proofs.Common.{◌≡◌, ℕ, ◌⊎◌, List, [], ◌∷◌, ◌++◌, get_or, codes, decimal, sym, refl, ap, subst, inl, inr, ⊎_elim, arith}
use Rattle.std.proofs.lemmas.Grind.{common_steps}
use Rattle.std.specs.List.{ContainsAt as Has}
use Rattle.refusals.specs.declared.refusal.Refusal.{Refusal}
use Rattle.refusals.specs.declared.refusal.Section.{Section}
use Rattle.grammar.specs.Files.{field}
use Rattle.reading.specs.declared.reader.Reader.{Reader}
use Rattle.reading.specs.declared.word.Lexeme.{Lexeme}
use Rattle.reading.specs.declared.word.Word.{Word}
use Rattle.reading.specs.Languages.{Then, OneOf, Numeral, Field, Fields, Sign}
use Rattle.reading.specs.Passing.{Opens, Any, NoDigit, Over, Faulty, Fault}
use Rattle.reading.specs.Taking.{lexeme_of, MarkTaken, NoMark}
use Rattle.reading.proofs.Composition.{Follows, follows_any, over_then, fault_then, fault_first}
use Rattle.reading.proofs.Steps.{has_first, has_only, has_cases, no_mark, handed_bytes, handed_offset}

-- the one byte that is wanted
pub only_mark : {k : ℕ} {s t : Reader} {r : Word} → MarkTaken (k ∷ []) s t r → Over (OneOf (k ∷ [])) Any (k ∷ []) s t
only_mark {k} {s} {t} m = subst (λ b. Over (OneOf (k ∷ [])) Any (b ∷ []) s t) (has_only k m.byte m.one) m.taken.over

pub no_only_mark : {k : ℕ} {s : Reader} {e : Refusal} → NoMark (k ∷ []) s e → Fault (OneOf (k ∷ [])) Any s e
no_only_mark {k} h = no_mark (k ∷ []) k (has_first k []) h

-- the byte and the offset of a mark, by its lexeme
module _ {wanted : List ℕ} {s t : Reader} {r : Word} (m : MarkTaken wanted s t r) {l : Lexeme} (e : l ≡ lexeme_of r) where
  pub mark_byte : get_or l.bytes.now 0 0 ≡ m.byte
  mark_byte = ap (λ bs. get_or bs 0 0) (handed_bytes m.taken (λ l. refl) e)

  pub mark_offset : l.offset ≡ s.at
  mark_offset = handed_offset m.taken (λ l. refl) e

-- a byte that is no digit stops a number
pub mark_follows : (k : ℕ) → NoDigit k → Follows NoDigit (OneOf (k ∷ []))
mark_follows k none v z h =
    subst (λ l. Opens NoDigit (l ++ z)) (sym h.2) (subst NoDigit (sym (has_only k h.0 h.1)) none)

comma_follows : Follows NoDigit (OneOf (codes ","))
comma_follows = mark_follows 44 (λ d. omega arith)

pub field_first : {text : List ℕ} {from : ℕ} {section : Section} {e : Refusal} → Faulty (Numeral 4294967295) NoDigit text from section e → Faulty Field Any text from section e
field_first h = fault_first comma_follows (44 ∷ []) (44, has_first 44 [], refl) h

pub field_second : {w : List ℕ} {s t : Reader} {e : Refusal} → Over (Numeral 4294967295) NoDigit w s t → NoMark (codes ",") t e → Fault Field Any s e
field_second p h = fault_then comma_follows p (no_only_mark h)

pub field_over : {w : List ℕ} {s t u : Reader} {r : Word} → Over (Numeral 4294967295) NoDigit w s t → MarkTaken (codes ",") t u r → Over Field Any (w ++ (44 ∷ [])) s u
field_over p m = over_then comma_follows p (only_mark m)

-- fields that serve where a part before them is refused
some_fields_1 : Then Field (Numeral 4294967295) (field 0 ++ decimal 0)
some_fields_1 = grind (arith, common_steps)

some_fields_2 : Then Field (Then Field (Numeral 4294967295)) (field 0 ++ (field 0 ++ decimal 0))
some_fields_2 = grind (arith, common_steps)

pub fields_1 : {text : List ℕ} {from : ℕ} {section : Section} {e : Refusal} → Faulty Field Any text from section e → Faulty Fields NoDigit text from section e
fields_1 h = fault_first (follows_any _) _ some_fields_2 h

pub fields_2 : {v : List ℕ} {s t : Reader} {e : Refusal} → Over Field Any v s t → Fault Field Any t e → Fault Fields NoDigit s e
fields_2 p h = fault_then (follows_any _) p (fault_first (follows_any _) _ some_fields_1 h)

pub fields_3 : {v w : List ℕ} {s t u : Reader} {e : Refusal} → Over Field Any v s t → Over Field Any w t u → Fault Field Any u e → Fault Fields NoDigit s e
fields_3 p q h = fault_then (follows_any _) p (fault_then (follows_any _) q (fault_first (follows_any _) (decimal 0) (0, omega arith, refl) h))

pub fields_4 : {v w x : List ℕ} {s t u y : Reader} {e : Refusal} → Over Field Any v s t → Over Field Any w t u → Over Field Any x u y → Fault (Numeral 4294967295) NoDigit y e → Fault Fields NoDigit s e
fields_4 p q r h = fault_then (follows_any _) p (fault_then (follows_any _) q (fault_then (follows_any _) r h))

pub fields_over : {v w x z : List ℕ} {s t u y o : Reader} → Over Field Any v s t → Over Field Any w t u → Over Field Any x u y → Over (Numeral 4294967295) NoDigit z y o → Over Fields NoDigit (v ++ (w ++ (x ++ z))) s o
fields_over p q r n = over_then (follows_any _) p (over_then (follows_any _) q (over_then (follows_any _) r n))

-- the sign of a pair
pub sign_cases : {b : ℕ} → Has (codes "+|") b → (b ≡ 43) ⊎ (b ≡ 124)
sign_cases {b} h = ⊎_elim (λ e. inl e) (λ k. inr (has_only 124 b k)) (has_cases 43 (124 ∷ []) b h)

pub sign_follows : Follows NoDigit Sign
sign_follows v z h =
    subst (λ l. Opens NoDigit (l ++ z)) (sym h.2) (λ d. ⊎_elim (λ e. omega arith) (λ e. omega arith) (sign_cases h.1))

pub same_sign : {b : ℕ} {s t : Reader} (k : ℕ) → b ≡ k → Over Sign Any (b ∷ []) s t → Over Sign Any (k ∷ []) s t
same_sign {s = s} {t = t} k e p = subst (λ x. Over Sign Any (x ∷ []) s t) e p
