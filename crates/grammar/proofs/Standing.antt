-- A text gives one answer at most, and the score that it gives is held by its own file alone.
use Rattle.std.proofs.Common.{◌≡◌, ℕ, ◌+◌, ◌<◌, ◌≤◌, List, ◌++◌, length, take, drop, Ok, Err, codes, decimal, Result, sym, refl, ap, ◌∙◌, subst, ⊎_elim, arith}
use Rattle.std.proofs.lemmas.List.{append_assoc, take-append-drop, take-take}
use Rattle.std.proofs.lemmas.Bool.{cases_order}
use Rattle.algebra.specs.Kind.{KindModel, KindLaws}
use Rattle.algebra.specs.Score.{Score, Score.rest, Score.primitive, Score.sequence, Score.parallel, Legal, score_length}
use Rattle.refusals.specs.declared.refusal.Refusal.{Refusal}
use Rattle.refusals.specs.declared.refusal.Refusal.TheVariants.{Misfit}
use Rattle.refusals.specs.declared.refusal.Section.TheVariants as section
use Rattle.grammar.specs.Files.{Grammatical, File, GrammaticalFile, line, print_file, IsFile, FirstMisfit}
use Rattle.grammar.specs.Refusals.{Signed, Headed, HeadRefused, HeadRefused.oversize, HeadRefused.unsigned, HeadRefused.unheaded, Refused, Refused.headless, Refused.other_kind, Refused.misfit}
use Rattle.grammar.specs.Loads.{Loads, Loads.refused, Loads.file, checked, file_of, file_bytes}
use Rattle.grammar.specs.Theorems.{OneAnswer, ReadExactly, WrittenBack}
use Rattle.algebra.specs.Limits.{Holdable}
use Rattle.grammar.proofs.Checked.{gives, given}
use Rattle.grammar.proofs.Sizes.{narrow, length_file}
use Rattle.grammar.proofs.Unique.{same_head, same_file}

-- a text has one first misfit at most
module _ (L : List ℕ → Type 0) (text : List ℕ) where
  not_before : (a b : ℕ) → a < b → FirstMisfit L text a → FirstMisfit L text b → ⊥
  not_before a b lt m n =
      let front = take (a + 1) text in
      let split : take b text ≡ front ++ drop (a + 1) (take b text) =
      sym (take-append-drop (a + 1) (take b text)) ∙ ap (λ l. l ++ drop (a + 1) (take b text)) (take-take (a + 1) b text (omega arith)) in
      let more = drop (a + 1) (take b text) ++ n.belongs.0 in
      let whole : take b text ++ n.belongs.0 ≡ front ++ more = ap (λ l. l ++ n.belongs.0) split ∙ append_assoc front (drop (a + 1) (take b text)) n.belongs.0 in
      m.misfit (omega (arith, n.within)) (more, subst L whole n.belongs.1)

  one_misfit : (a b : ℕ) → FirstMisfit L text a → FirstMisfit L text b → a ≡ b
  one_misfit a b m n = ⊎_elim (λ e. e) (λ h. ⊎_elim (λ l. absurd (not_before a b l m n)) (λ l. absurd (not_before b a l n m)) h) (cases_order a b)

module _ (text : List ℕ) where
  headed_signed : Headed text → Signed text
  headed_signed h =
      let lines = line (codes "kind=") h.kind ++ (line (codes "length=") (decimal h.ticks) ++ line (codes "prims=") (decimal h.count)) in
      (lines ++ h.rest, h.split)

  one_kind : (g h : Headed text) → g.kind ≡ h.kind
  one_kind g h = (same_head _ _ _ _ _ _ _ _ g.within h.within (sym g.split ∙ h.split)).kinds

  same_headless : (d e : Refusal) → HeadRefused text d → HeadRefused text e → d ≡ e
  same_headless d e (oversize a) (oversize b) = refl
  same_headless d e (oversize a) (unsigned o l m s) = absurd (omega arith)
  same_headless d e (oversize a) (unheaded o l m s h) = absurd (omega arith)
  same_headless d e (unsigned o l m s) (oversize b) = absurd (omega arith)
  same_headless d e (unsigned o l m s) (unsigned o' l' m' s') = ap (λ k. Misfit section.Signature k) (one_misfit IsFile text o o' m m')
  same_headless d e (unsigned o l m s) (unheaded o' l' m' s' h') = absurd (s s')
  same_headless d e (unheaded o l m s h) (oversize b) = absurd (omega arith)
  same_headless d e (unheaded o l m s h) (unsigned o' l' m' s') = absurd (s' s)
  same_headless d e (unheaded o l m s h) (unheaded o' l' m' s' h') = ap (λ k. Misfit section.Head k) (one_misfit IsFile text o o' m m')

  has_head : (e : Refusal) → HeadRefused text e → length text ≤ 16384 → Headed text → ⊥
  has_head e (oversize a) l h = omega arith
  has_head e (unsigned o l m s) l' h = s (headed_signed h)
  has_head e (unheaded o l m s n) l' h = n h

  same_refused : (kind : List ℕ) (d e : Refusal) → Refused kind text d → Refused kind text e → d ≡ e
  same_refused kind d e (headless a) (headless b) = same_headless d e a b
  same_refused kind d e (headless a) (other_kind l h n) = absurd (has_head d a l h)
  same_refused kind d e (headless a) (misfit o l h k m) = absurd (has_head d a l h)
  same_refused kind d e (other_kind l h n) (headless b) = absurd (has_head e b l h)
  same_refused kind d e (other_kind l h n) (other_kind l' h' n') = refl
  same_refused kind d e (other_kind l h n) (misfit o l' h' k m) = absurd (n (one_kind h h' ∙ k))
  same_refused kind d e (misfit o l h k m) (headless b) = absurd (has_head e b l h)
  same_refused kind d e (misfit o l h k m) (other_kind l' h' n') = absurd (n' (one_kind h' h ∙ k))
  same_refused kind d e (misfit o l h k m) (misfit o' l' h' k' m') = ap (λ k. Misfit section.Body k) (one_misfit IsFile text o o' m m')

  -- a file of the kind is not refused
  module _ (kind : List ℕ) (f : File) (within : GrammaticalFile f) (small : length text ≤ 16384) (named : f.kind ≡ kind) (printed : text ≡ print_file f) where
    is_file : IsFile text
    is_file = record { file = f; within = within; printed = printed }

    abbrev head_here : Headed text
    head_here = record { kind = f.kind; ticks = f.ticks; count = f.count; rest = _; within = within.head; split = printed }

    not_refused : (e : Refusal) → Refused kind text e → ⊥
    not_refused e (headless a) = has_head e a small head_here
    not_refused e (other_kind l h n) = n (one_kind h head_here ∙ named)
    not_refused e (misfit o l h k m) = m.refused is_file

pub one_answer : OneAnswer
one_answer K text q r (refused a) (refused b) = ap Err (same_refused text K.name _ _ a b)
one_answer K text q r (refused a) (file f w l k p) = absurd (not_refused text K.name f w l k p _ a)
one_answer K text q r (file f w l k p) (refused b) = absurd (not_refused text K.name f w l k p _ b)
one_answer K text q r (file f w l k p) (file f' w' l' k' p') = ap (checked K) (same_file f f' w w' (sym p ∙ p'))

read_as : (K : KindModel) (text : List ℕ) (s : Score) (r : Result Score Refusal) → r ≡ Ok s → Loads K text r → Holdable K s × (text ≡ file_bytes K s)
read_as K text s r e (refused a) = absurd (grind arith)
read_as K text s r e (file f w l k p) =
    let g = gives K f s e in
    (g.holdable, p ∙ (λ i. print_file (record { kind = k i; ticks = g.ticks i; count = g.count i; body = g.body i })))

pub read_exactly : ReadExactly
read_exactly K text s h = read_as K text s (Ok s) refl h

module _ (K : KindModel) (laws : KindLaws K) where
  grammatical : (s : Score) → Legal K s → score_length K s ≤ 16777215 → Grammatical s
  grammatical (rest d) l h = h
  grammatical (primitive p) l h = laws.words p l
  grammatical (sequence a b) l h = (grammatical a l.0 (omega arith), grammatical b l.1 (omega arith))
  grammatical (parallel a b) l h = (grammatical a l.0 (omega arith), grammatical b l.1 (omega arith))

pub written_back : WrittenBack
written_back K laws s h =
    let body = grammatical K laws s h.legal h.fits.short in
    let within : GrammaticalFile (file_of K s) = record { head = record { name = laws.named; short = h.fits.short; few = h.fits.few_primitives }; body = body } in
    let small = length_file (file_of K s) laws.named.short (omega (arith, h.fits.short)) h.fits.few_primitives (narrow s body) h.fits.few_nodes h.fits.few_primitives in
    subst (Loads K (file_bytes K s)) (given K s h) (file (file_of K s) within small refl refl)
