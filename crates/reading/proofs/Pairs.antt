-- A pair: what stands in the text and in the draft when its parts are read.
use Rattle.std.proofs.Common.{◌≡◌, ℕ, ◌+◌, List, [], ◌∷◌, ◌++◌, length, take, codes, sym, refl, ap, ◌∙◌, ⊎_elim}
use Rattle.algebra.specs.declared.numbers.Numbers.{Numbers}
use Rattle.algebra.specs.declared.node.Node.{Node}
use Rattle.algebra.specs.declared.node.Node.TheVariants.{Sequence, Parallel}
use Rattle.algebra.specs.Score.{Score, Score.sequence, Score.parallel}
use Rattle.grammar.specs.declared.draft.Draft.{Draft}
use Rattle.grammar.specs.Files.{print, Grammatical}
use Rattle.grammar.specs.Items.{item, items}
use Rattle.grammar.specs.Drafts.{with_node}
use Rattle.reading.specs.declared.reader.Reader.{Reader}
use Rattle.reading.specs.Languages.{OneOf, Sign}
use Rattle.reading.specs.Passing.{Any, Over}
use Rattle.reading.specs.Terms.{SignTaken, TermTaken, PairTaken}
use Rattle.reading.proofs.Drafted.{pair_drafted}
use Rattle.reading.proofs.Scores.{inside_over}

-- a sign is read, whichever it is
pub sign_over : {s t : Reader} {n : Node Numbers} → SignTaken s t n → (w : List ℕ) × Over Sign Any w s t
sign_over h = ⊎_elim (λ k. (codes "+", k.1)) (λ k. (codes "|", k.1)) h

module _ {s t u v w : Reader} (d₀ : Draft) {d₁ d₂ d₃ d₄ : Draft} (offset : ℕ) (opened : s.at ≡ offset + 1) (a : TermTaken s t d₁ d₂) (b : TermTaken u v d₃ d₄) (close : Over (OneOf (codes ")")) Any (41 ∷ []) v w) (pushed : d₁ ≡ take 1024 (d₀ ++ (item Sequence offset ∷ []))) where
  module _ (node : Node Numbers) (put : d₃ ≡ with_node d₂ (length d₀) node) where
    -- by the byte of the sign, and what it makes of two scores
    made : (k : ℕ) (make : Score → Score → Score) → ((p q : Score) → Grammatical p → Grammatical q → Grammatical (make p q)) → ((p q : Score) → print (make p q) ≡ 40 ∷ (print p ++ (k ∷ (print q ++ (41 ∷ []))))) → ((i : ℕ) (p q : Score) → items i (make p q) ≡ item node i ∷ (items (i + 1) p ++ items (i + 1 + length (print p) + 1) q)) → Over Sign Any (k ∷ []) t u → PairTaken offset s w d₀ d₄
    made k make within prints lists sign =
        let p = a.term in
        let q = b.term in
        let right : u.at ≡ offset + 1 + length (print p) + 1 = sign.passed.moved ∙ ap (λ n. n + 1) (a.over.passed.moved ∙ ap (λ n. n + length (print p)) opened) in
        record {
          term = make p q;
          grammatical = within p q a.grammatical b.grammatical;
          inside = print p ++ (k ∷ (print q ++ (41 ∷ [])));
          printed = prints p q;
          over = inside_over a.over sign b.over close;
          drafted =
              pair_drafted 1024 d₀ d₁ d₂ d₃ d₄ (items (offset + 1) p) (items (offset + 1 + length (print p) + 1) q) offset node
              pushed
              (a.drafted ∙ ap (λ n. take 1024 (d₁ ++ items n p)) opened)
              put
              (b.drafted ∙ ap (λ n. take 1024 (d₃ ++ items n q)) right)
              ∙ ap (λ l. take 1024 (d₀ ++ l)) (sym (lists offset p q));
        }

  pub pair_taken : (node : Node Numbers) → d₃ ≡ with_node d₂ (length d₀) node → SignTaken t u node → PairTaken offset s w d₀ d₄
  pair_taken node put sign =
      ⊎_elim
      (λ h. made Sequence (put ∙ ap (with_node d₂ (length d₀)) h.0) 43 sequence (λ p q l m. (l, m)) (λ p q. refl) (λ i p q. refl) h.1)
      (λ h. made Parallel (put ∙ ap (with_node d₂ (length d₀)) h.0) 124 parallel (λ p q l m. (l, m)) (λ p q. refl) (λ i p q. refl) h.1)
      sign
