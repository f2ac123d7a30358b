-- From the parts of a file to the file.
use Rattle.std.proofs.Common.{◌≡◌, ℕ, ◌+◌, ◌≤◌, List, [], ◌∷◌, ◌++◌, length, get_or, take, drop, codes, decimal, sym, refl, ap, ◌∙◌, subst, append_assoc, append-nil, arith, take-append-drop}
use Rattle.std.proofs.lemmas.Grind.{common_steps}
use mathlib.Core.List.{append_cancel_right}
use Rattle.std.proofs.lemmas.List.{drop_more, take_more, length-append}
use Rattle.refusals.specs.declared.refusal.Refusal.{Refusal}
use Rattle.refusals.specs.declared.refusal.Refusal.TheVariants.{OtherKind}
use Rattle.refusals.specs.declared.refusal.Section.{Section}
use Rattle.refusals.specs.declared.refusal.Section.TheVariants as section
use Rattle.algebra.specs.Kind.{Name}
use Rattle.algebra.specs.Score.{Score, Score.rest}
use Rattle.grammar.specs.Files.{line, print, Grammatical, signature, ending, print_head, File, GrammaticalHead, IsFile, FirstMisfit, body_offset}
use Rattle.grammar.specs.Refusals.{Headed, HeadRefused, unsigned, unheaded, Refused, other_kind, misfit}
use Rattle.grammar.specs.declared.draft.Draft.{Draft}
use Rattle.grammar.specs.Items.{items}
use Rattle.grammar.specs.Described.{ReadAs}
use Rattle.reading.specs.declared.reader.Reader.{Reader}
use Rattle.reading.specs.declared.reader.head.Lines as lines
use Rattle.reading.specs.Heads.{LinesTaken}
use Rattle.reading.specs.Terms.{BodyTaken}
use Rattle.reading.specs.Languages.{Just, Then, Numeral, KindLine, NumberLine, Head, Body, Tail}
use Rattle.reading.specs.Passing.{Any, Nothing, NoDigit, Agrees, Passed, Stopped, Faulty, Over, Fault}
use Rattle.reading.proofs.Composition.{Follows, agrees_self, opens_any, follows_any, follows_just, follows_then, then_stopped, first_stopped, fault_then, fault_first}
use Rattle.reading.proofs.Steps.{some_name}

-- the contents that a text in parts is printed from
head_is : (w : List ℕ) (h : Head w) → w ≡ print_head h.second.first.second.front h.second.second.first.second.first.0 h.second.second.second.second.first.0
head_is w h = grind (arith, common_steps)

tail_is : (w : List ℕ) (t : Tail w) → w ≡ codes "body=" ++ (print t.second.first.0 ++ ending)
tail_is w t = grind (arith, common_steps)

file_is : (w : List ℕ) → Then Head Tail w → IsFile w
file_is w f =
    let h = f.first in
    record {
      file = record { kind = h.second.first.second.front; ticks = h.second.second.first.second.first.0; count = h.second.second.second.second.first.0; body = f.second.second.first.0 };
      within = record {
        head = record { name = h.second.first.second.first; short = h.second.second.first.second.first.1; few = h.second.second.second.second.first.1 };
        body = f.second.second.first.1;
      };
      printed = f.split ∙ (λ i. head_is _ h i ++ tail_is _ f.second i);
    }

-- and the parts of what is printed
line_of : (key w : List ℕ) (M : List ℕ → Type 0) → M w → Then (Just key) (Then M (Just (10 ∷ []))) (line key w)
line_of key w M is = grind (arith, common_steps)

number_line_of : (key : List ℕ) (limit n : ℕ) → n ≤ limit → NumberLine key limit (line key (decimal n))
number_line_of key limit n le = line_of key (decimal n) (Numeral limit) (n, le, refl)

abbrev pub Numbers : List ℕ → Type 0
Numbers = Then (NumberLine (codes "length=") 16777215) (NumberLine (codes "prims=") 170)

abbrev pub Lines : List ℕ → Type 0
Lines = Then KindLine (Then (NumberLine (codes "length=") 16777215) (NumberLine (codes "prims=") 170))

numbers_of : (ticks count : ℕ) → ticks ≤ 16777215 → count ≤ 170 → Numbers (line (codes "length=") (decimal ticks) ++ line (codes "prims=") (decimal count))
numbers_of ticks count a b = record {
  front = line (codes "length=") (decimal ticks);
  back = line (codes "prims=") (decimal count);
  first = number_line_of (codes "length=") 16777215 ticks a;
  second = number_line_of (codes "prims=") 170 count b;
  split = refl;
}

lines_of : (kind : List ℕ) (ticks count : ℕ) → GrammaticalHead kind ticks count → Lines (line (codes "kind=") kind ++ (line (codes "length=") (decimal ticks) ++ line (codes "prims=") (decimal count)))
lines_of kind ticks count l = record {
  front = line (codes "kind=") kind;
  back = line (codes "length=") (decimal ticks) ++ line (codes "prims=") (decimal count);
  first = line_of (codes "kind=") kind Name l.name;
  second = numbers_of ticks count l.short l.few;
  split = refl;
}

head_of : (kind : List ℕ) (ticks count : ℕ) → GrammaticalHead kind ticks count → Head (print_head kind ticks count)
head_of kind ticks count l = record {
  front = signature;
  back = line (codes "kind=") kind ++ (line (codes "length=") (decimal ticks) ++ line (codes "prims=") (decimal count));
  first = refl;
  second = lines_of kind ticks count l;
  split = refl;
}

pub some_ending : Then (Just ending) (Just []) ending
some_ending = grind (arith, common_steps)

tail_of : (t : Score) → Grammatical t → Tail (codes "body=" ++ (print t ++ ending))
tail_of t l = grind (arith, common_steps)

file_of_lem : (w : List ℕ) → IsFile w → Then Head Tail w
file_of_lem w f = record {
  front = print_head f.file.kind f.file.ticks f.file.count;
  back = codes "body=" ++ (print f.file.body ++ ending);
  first = head_of _ _ _ f.within.head;
  second = tail_of f.file.body f.within.body;
  split = f.printed;
}

-- words that serve where a part before them is refused
some_head : GrammaticalHead (97 ∷ []) 0 0
some_head = record { name = some_name; short = omega arith; few = omega arith }

pub some_lines : Lines (line (codes "kind=") (97 ∷ []) ++ (line (codes "length=") (decimal 0) ++ line (codes "prims=") (decimal 0)))
some_lines = lines_of (97 ∷ []) 0 0 some_head

pub some_numbers : Numbers (line (codes "length=") (decimal 0) ++ line (codes "prims=") (decimal 0))
some_numbers = numbers_of 0 0 (omega arith) (omega arith)

pub some_count : NumberLine (codes "prims=") 170 (line (codes "prims=") (decimal 0))
some_count = number_line_of (codes "prims=") 170 0 (omega arith)

pub some_body : Body (print (rest 0))
some_body = (rest 0, omega arith, refl)

some_tail : Tail (codes "body=" ++ (print (rest 0) ++ ending))
some_tail = tail_of (rest 0) (omega arith)

-- where the parts of a file stop, the file stops
file_misfit : (text : List ℕ) (offset : ℕ) → Stopped (Then Head Tail) Nothing text 0 offset → FirstMisfit IsFile text offset
file_misfit text offset r =
    let front : r.front ≡ take offset text = append_cancel_right r.front (take offset text) (drop offset text) (sym r.split ∙ sym (take-append-drop offset text)) in
    record {
      within = r.within;
      belongs = (r.more, subst (λ l. IsFile (l ++ r.more)) front (file_is _ r.begun));
      misfit = λ lt v.
          let next : drop offset text ≡ get_or text offset 0 ∷ drop (offset + 1) text = drop_more text offset 0 lt in
          r.stuck (take (offset + 1) text ++ v.0) [] (get_or text offset 0 ∷ v.0) (subst (λ l. Agrees l (get_or text offset 0 ∷ v.0)) (sym next) (v.0, refl)) (file_of_lem _ v.1) tt
          (ap (λ l. l ++ (get_or text offset 0 ∷ v.0)) front ∙ sym (append_assoc (take offset text) (get_or text offset 0 ∷ []) v.0) ∙ ap (λ l. l ++ v.0) (sym (take_more text offset 0 lt)) ∙ sym (append-nil _));
      refused = λ f. r.stuck text [] (drop offset text) (agrees_self _) (file_of_lem _ f) tt (sym r.split ∙ sym (append-nil text));
    }

head_misfit : (text : List ℕ) (offset : ℕ) → Stopped Head Any text 0 offset → FirstMisfit IsFile text offset
head_misfit text offset s = file_misfit text offset (first_stopped (follows_any _) _ some_tail s)

-- the first line is refused
pub signature_refused : (text : List ℕ) → length text ≤ 16384 → (e : Refusal) → Faulty (Just signature) Any text 0 section.Signature e → HeadRefused text e
signature_refused text small e h =
    subst (HeadRefused text) (sym h.is)
    (unsigned h.offset small (head_misfit text h.offset (first_stopped (follows_any _) _ some_lines h.stopped))
    (λ k. h.stopped.stuck signature k.0 (drop h.offset text) (agrees_self _) refl (opens_any k.0) (sym h.stopped.split ∙ k.1)))

-- the first line is read, and one of the next three refused
pub lines_refused : (text : List ℕ) (a : ℕ) → length text ≤ 16384 → Passed (Just signature) Any signature text 0 a → (e : Refusal) → Faulty Lines Any text a section.Head e → HeadRefused text e
lines_refused text a small p e h =
    let s = then_stopped {H = Any} (follows_any _) p h.stopped in
    subst (HeadRefused text) (sym h.is)
    (unheaded h.offset small (head_misfit text h.offset s) (drop a text, p.split)
    (λ k. s.stuck (print_head k.kind k.ticks k.count) k.rest (drop h.offset text) (agrees_self _) (head_of _ _ _ k.within) (opens_any k.rest) (sym s.split ∙ k.split)))

-- offsets by what stands before
pub behind_two : (a b c : List ℕ) (i j k : ℕ) → i ≡ 0 + length a → j ≡ i + length b → k ≡ j + length c → k ≡ length (a ++ (b ++ c))
behind_two a b c i j k p q r = grind (arith, common_steps)

pub behind_three : (a b c d : List ℕ) (i j k l : ℕ) → i ≡ 0 + length a → j ≡ i + length b → k ≡ j + length c → l ≡ k + length d → l ≡ length (a ++ (b ++ (c ++ d)))
behind_three a b c d i j k l p q r s = grind (arith, common_steps)

-- the parts behind the head
ending_follows : Follows NoDigit (Then (Just ending) (Just []))
ending_follows = follows_then NoDigit (Just ending) (Just []) (follows_just NoDigit 10 _ (λ d. omega arith))

pub tail_1 : {text : List ℕ} {from : ℕ} {s : Section} {e : Refusal} → Faulty (Just (codes "body=")) Any text from s e → Faulty Tail Nothing text from s e
tail_1 h = fault_first (follows_any _) (print (rest 0) ++ ending) (record { front = print (rest 0); back = ending; first = some_body; second = some_ending; split = refl }) h

pub tail_2 : {v : List ℕ} {s t : Reader} {e : Refusal} → Over (Just (codes "body=")) Any v s t → Fault Body NoDigit t e → Fault Tail Nothing s e
tail_2 p h = fault_then (follows_any _) p (fault_first ending_follows ending some_ending h)

pub tail_3 : {v w : List ℕ} {s t u : Reader} {e : Refusal} → Over (Just (codes "body=")) Any v s t → Over Body NoDigit w t u → Fault (Just ending) Any u e → Fault Tail Nothing s e
tail_3 p q h = fault_then (follows_any _) p (fault_then ending_follows q (fault_first (follows_any _) [] refl h))

pub tail_4 : {v w x : List ℕ} {s t u y : Reader} {e : Refusal} → Over (Just (codes "body=")) Any v s t → Over Body NoDigit w t u → Over (Just ending) Any x u y → Fault (Just []) Nothing y e → Fault Tail Nothing s e
tail_4 p q r h = fault_then (follows_any _) p (fault_then ending_follows q (fault_then (follows_any _) r h))

pub tail_split : {v w x : List ℕ} {s t u y : Reader} → Over (Just (codes "body=")) Any v s t → Over Body NoDigit w t u → Over (Just ending) Any x u y → y.at ≡ length y.text.now → drop s.at s.text.now ≡ v ++ (w ++ x)
tail_split {v} {w} {x} {s} {t} {u} {y} p q r e = grind (arith, common_steps)

-- a text whose head is read
module _ (text : List ℕ) (h : lines.Lines) (taken : LinesTaken text h) where
  passed : Passed Head Any (print_head h.kind.bytes.now h.head.ticks.value h.head.count.value) text 0 h.end
  passed = record { moved = omega (arith, taken.end_at); within = taken.inside; is = head_of _ _ _ taken.within; split = taken.split; sure = taken.sure }

  abbrev pub headed : Headed text
  headed = record {
    kind = h.kind.bytes.now;
    ticks = h.head.ticks.value;
    count = h.head.count.value;
    rest = drop h.end text;
    within = taken.within;
    split = taken.split;
  }

  pub kind_refused : (kind : List ℕ) → (h.kind.bytes.now ≡ kind → ⊥) → Refused kind text (OtherKind h.kind.offset)
  kind_refused kind other = subst (λ o. Refused kind text (OtherKind o)) (sym taken.kind_at) (other_kind taken.small headed other)

  pub tail_refused : (kind : List ℕ) → h.kind.bytes.now ≡ kind → (e : Refusal) → Faulty Tail Nothing text h.end section.Body e → Refused kind text e
  tail_refused kind same e f =
      subst (Refused kind text) (sym f.is) (misfit f.offset taken.small headed same (file_misfit text f.offset (then_stopped (follows_any _) passed f.stopped)))

  pub read_as : (kind : List ℕ) → h.kind.bytes.now ≡ kind → (d d' : Draft) → d ≡ [] → BodyTaken text h.end d d' → ReadAs kind text h.head d'
  read_as kind same d d' empty body =
      let f : File = record { kind = h.kind.bytes.now; ticks = h.head.ticks.value; count = h.head.count.value; body = body.term } in
      let head = print_head h.kind.bytes.now h.head.ticks.value h.head.count.value in
      let at : h.end + 5 ≡ body_offset f = omega (arith, taken.end_at, length-append head (codes "body=")) in
      record {
        file = f;
        small = taken.small;
        kind_is = same;
        printed = taken.split ∙ ap (λ l. head ++ l) body.split;
        describes = record {
          within = record { head = taken.within; body = body.grammatical };
          ticks = refl;
          ticks_at = taken.ticks_at;
          count = refl;
          count_at = taken.count_at;
          drafted = body.drafted ∙ (λ i. take 1024 (empty i ++ items (at i) body.term));
        };
      }
