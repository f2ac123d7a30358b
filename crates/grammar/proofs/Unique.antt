-- A text is the print of one term at most, and of one file at most. Assumes nothing.
use Rattle.std.proofs.Common.{◌≡◌, ℕ, List, [], ◌∷◌, ◌++◌, get_or, drop, codes, decimal, sym, ap, ◌∙◌, arith}
use Rattle.std.proofs.lemmas.List.{append_assoc}
use Rattle.algebra.specs.declared.numbers.Numbers.{Numbers}
use Rattle.algebra.specs.Kind.{Letter, Words, four}
use Rattle.algebra.specs.Score.{Score, Score.rest, Score.primitive, Score.sequence, Score.parallel}
use Rattle.grammar.specs.Files.{field, fields, print, Grammatical, File, line, print_head, ending, print_file, GrammaticalHead, GrammaticalFile}
use Rattle.grammar.proofs.Runs.{Ends, Digit, split_before, split_number, split_number_before}

no_comma : Digit 44 → ⊥
no_comma d = omega arith

same_fields : (p q : Numbers) (z y : List ℕ) → Words p → Words q → Ends Digit z → Ends Digit y → fields p ++ z ≡ fields q ++ y → (p ≡ q) × (z ≡ y)
same_fields p q z y a b oz oy e =
    let first = split_number_before 44 no_comma p.first q.first _ _ a.first b.first (sym (append_assoc (field p.first) _ z) ∙ e ∙ append_assoc (field q.first) _ y) in
    let second = split_number_before 44 no_comma p.second q.second _ _ a.second b.second (sym (append_assoc (field p.second) _ z) ∙ first.1 ∙ append_assoc (field q.second) _ y) in
    let third = split_number_before 44 no_comma p.third q.third _ _ a.third b.third (sym (append_assoc (field p.third) _ z) ∙ second.1 ∙ append_assoc (field q.third) _ y) in
    let fourth = split_number p.fourth q.fourth z y a.fourth b.fourth oz oy third.1 in
    (λ i. four (first.0 i) (second.0 i) (third.0 i) (fourth.0 i), fourth.1)

-- where two texts begin with terms that no digit follows, the terms are the same
abbrev Same : Score → Score → Type 0
Same s t = (z y : List ℕ) → Grammatical s → Grammatical t → Ends Digit z → Ends Digit y → print s ++ z ≡ print t ++ y → (s ≡ t) × (z ≡ y)

record SamePair (σ τ : ℕ) (a b c d : Score) (z y : List ℕ) : Type 0 where
  left : a ≡ c
  sign : σ ≡ τ
  right : b ≡ d
  behind : z ≡ y

same_pair : (σ τ : ℕ) → (Digit σ → ⊥) → (Digit τ → ⊥) → (a b c d : Score) → Same a c → Same b d → Grammatical a → Grammatical b → Grammatical c → Grammatical d
    → (z y : List ℕ) → (print a ++ (σ ∷ (print b ++ (41 ∷ [])))) ++ z ≡ (print c ++ (τ ∷ (print d ++ (41 ∷ [])))) ++ y → SamePair σ τ a b c d z y
same_pair σ τ s t a b c d lefts rights ga gb gc gd z y e =
    let l = lefts (σ ∷ ((print b ++ (41 ∷ [])) ++ z)) (τ ∷ ((print d ++ (41 ∷ [])) ++ y)) ga gc s t (sym (append_assoc (print a) _ z) ∙ e ∙ append_assoc (print c) _ y) in
    let r = rights (41 ∷ z) (41 ∷ y) gb gd (λ k. omega arith) (λ k. omega arith) (sym (append_assoc (print b) (41 ∷ []) z) ∙ ap (drop 1) l.1 ∙ append_assoc (print d) (41 ∷ []) y) in
    record { left = l.0; sign = ap (λ l. get_or l 0 0) l.1; right = r.0; behind = ap (drop 1) r.1 }

no_plus : Digit 43 → ⊥
no_plus d = omega arith

no_bar : Digit 124 → ⊥
no_bar d = omega arith

pub same_print : (s t : Score) → Same s t
same_print (rest d) (rest f) z y a b oz oy e =
    let h = split_number d f z y (omega arith) (omega arith) oz oy (ap (drop 1) e) in
    (ap rest h.0, h.1)
same_print (rest d) (primitive p) z y a b oz oy e = absurd (omega (arith, ap (λ l. get_or l 0 0) e))
same_print (rest d) (sequence s t) z y a b oz oy e = absurd (omega (arith, ap (λ l. get_or l 0 0) e))
same_print (rest d) (parallel s t) z y a b oz oy e = absurd (omega (arith, ap (λ l. get_or l 0 0) e))
same_print (primitive p) (rest f) z y a b oz oy e = absurd (omega (arith, ap (λ l. get_or l 0 0) e))
same_print (primitive p) (primitive q) z y a b oz oy e =
    let h = same_fields p q z y a b oz oy (ap (drop 1) e) in
    (ap primitive h.0, h.1)
same_print (primitive p) (sequence s t) z y a b oz oy e = absurd (omega (arith, ap (λ l. get_or l 0 0) e))
same_print (primitive p) (parallel s t) z y a b oz oy e = absurd (omega (arith, ap (λ l. get_or l 0 0) e))
same_print (sequence s t) (rest f) z y a b oz oy e = absurd (omega (arith, ap (λ l. get_or l 0 0) e))
same_print (sequence s t) (primitive q) z y a b oz oy e = absurd (omega (arith, ap (λ l. get_or l 0 0) e))
same_print (sequence s t) (sequence u v) z y a b oz oy e =
    let h = same_pair 43 43 no_plus no_plus s t u v (same_print s u) (same_print t v) a.0 a.1 b.0 b.1 z y (ap (drop 1) e) in
    (λ i. sequence (h.left i) (h.right i), h.behind)
same_print (sequence s t) (parallel u v) z y a b oz oy e =
    let h = same_pair 43 124 no_plus no_bar s t u v (same_print s u) (same_print t v) a.0 a.1 b.0 b.1 z y (ap (drop 1) e) in
    absurd (omega (arith, h.sign))
same_print (parallel s t) (rest f) z y a b oz oy e = absurd (omega (arith, ap (λ l. get_or l 0 0) e))
same_print (parallel s t) (primitive q) z y a b oz oy e = absurd (omega (arith, ap (λ l. get_or l 0 0) e))
same_print (parallel s t) (sequence u v) z y a b oz oy e =
    let h = same_pair 124 43 no_bar no_plus s t u v (same_print s u) (same_print t v) a.0 a.1 b.0 b.1 z y (ap (drop 1) e) in
    absurd (omega (arith, h.sign))
same_print (parallel s t) (parallel u v) z y a b oz oy e =
    let h = same_pair 124 124 no_bar no_bar s t u v (same_print s u) (same_print t v) a.0 a.1 b.0 b.1 z y (ap (drop 1) e) in
    (λ i. parallel (h.left i) (h.right i), h.behind)

pub record SameHead (kind kind' : List ℕ) (ticks ticks' count count' : ℕ) (z y : List ℕ) : Type 0 where
  pub kinds : kind ≡ kind'
  pub lengths : ticks ≡ ticks'
  pub counts : count ≡ count'
  pub behind : z ≡ y

-- where two texts begin with heads, the heads are the same
pub same_head : (kind kind' : List ℕ) (ticks ticks' count count' : ℕ) (z y : List ℕ) → GrammaticalHead kind ticks count → GrammaticalHead kind' ticks' count'
    → print_head kind ticks count ++ z ≡ print_head kind' ticks' count' ++ y → SameHead kind kind' ticks ticks' count count' z y
same_head kind kind' ticks ticks' count count' z y g h e =
    let numbers : ℕ → ℕ → List ℕ = λ n m. line (codes "length=") (decimal n) ++ line (codes "prims=") (decimal m) in
    let first = split_before Letter 10 (λ l. omega arith) kind (numbers ticks count ++ z) kind' (numbers ticks' count' ++ y) g.name.letters h.name.letters
    (sym (append_assoc (kind ++ (10 ∷ [])) (numbers ticks count) z) ∙ ap (drop 13) e ∙ append_assoc (kind' ++ (10 ∷ [])) (numbers ticks' count') y) in
    let second = split_number_before 10 (λ d. omega arith) ticks ticks' (line (codes "prims=") (decimal count) ++ z) (line (codes "prims=") (decimal count') ++ y) (omega (arith, g.short)) (omega (arith, h.short))
    (sym (append_assoc (decimal ticks ++ (10 ∷ [])) (line (codes "prims=") (decimal count)) z) ∙ ap (drop 7) first.1 ∙ append_assoc (decimal ticks' ++ (10 ∷ [])) (line (codes "prims=") (decimal count')) y) in
    let third = split_number_before 10 (λ d. omega arith) count count' z y (omega (arith, g.few)) (omega (arith, h.few)) (ap (drop 6) second.1) in
    record { kinds = first.0; lengths = second.0; counts = third.0; behind = third.1 }

-- a text is the print of one file at most
pub same_file : (f g : File) → GrammaticalFile f → GrammaticalFile g → print_file f ≡ print_file g → f ≡ g
same_file f g a b e =
    let head = same_head f.kind g.kind f.ticks g.ticks f.count g.count _ _ a.head b.head e in
    let body = same_print f.body g.body ending ending a.body b.body (λ d. omega arith) (λ d. omega arith) (ap (drop 5) head.behind) in
    λ i. record { kind = head.kinds i; ticks = head.lengths i; count = head.counts i; body = body.0 i }
