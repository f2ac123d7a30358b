-- What is asked of two places follows from the ledger.
use Rattle.std.proofs.Common.{◌≡◌, ℕ, ◌↔◌, List, map, Some, None, Ok, Err, Option, sym, refl, ap, ◌∙◌, subst, arith}
use Rattle.refusals.specs.Checks.{Check, followed}
use Rattle.algebra.specs.Kind.{KindModel, KindLaws}
use Rattle.algebra.specs.Score.{Score, Placed, placed}
use Rattle.algebra.specs.Meaning.{Means}
use Rattle.algebra.specs.Rules.{Chain}
use Rattle.algebra.specs.Compare.{Answer, Answer.same, Answer.lengths, Answer.differs, Says, SaysOf, compared}
use Rattle.algebra.proofs.Bags.{permuted_map}
use Rattle.algebra.proofs.Complete.{bag_permuted}
use Rattle.algebra.proofs.Meanings.{chain_means}
use Rattle.comparing.specs.declared.comparison.Comparison.{Comparison}
use Rattle.comparing.specs.Comparisons.{meant, said}
use Rattle.render.specs.declared.entry.Entry.{Entry}
use Rattle.render.specs.Drawings.{InEitherOrder, entered_all}
use Rattle.render.proofs.Drawings.{permuted_drawn}
use Rattle.drawing.specs.Drawn.{entry_of, drawn, drawn_score}
use Rattle.building.specs.Rows.{score_in}
use Rattle.rack.specs.Shelves.{Shelf, at, score_held}
use Rattle.rack.specs.Comparing.{both_holding}
use Rattle.rack.proofs.Comparing.{same_exactly, only_answer}
use Rattle.rack.proofs.NormalFiles.{bytes_decide}
use Rattle.ledger.specs.Ledgers.{Page, Ledger, page}
use Rattle.ledger.specs.Stands.{Holds, Agrees, Stands}
use Rattle.ledger.specs.Certificates.{TwoPlaces, Certified}

module _ (K : KindModel) (laws : KindLaws K) where
  -- by the scores, and so by their pages
  says_by : (s t : Score) (p q : Page) → Holds K s p → Holds K t q → (a : Answer) → Says K s t a → SaysOf K p.long p.bag q.long q.bag a
  says_by s t p q h k same w = (sym h.means.0 ∙ w.0 ∙ k.means.0, λ x. sym (h.means.1 x) ∙ w.1 x ∙ k.means.1 x)
  says_by s t p q h k (lengths m n) w = (sym h.means.0 ∙ w.0, sym k.means.0 ∙ w.1, w.2)
  says_by s t p q h k (differs x m n) w =
      (sym h.means.0 ∙ w.0 ∙ k.means.0, sym (h.means.1 x) ∙ w.1, sym (k.means.1 x) ∙ w.2, w.3, λ y l. sym (h.means.1 y) ∙ w.4 y l ∙ k.means.1 y)

  answered : (check : Check) (a : Answer) (c : Comparison) → followed check (Ok (said a)) ≡ Ok c → c ≡ said a
  answered (Ok u) a c e = cc
  answered (Err why) a c e = absurd (grind arith)

  held_by : (o : Option Score) (q : Option Page) (p : Page) → Agrees K o q → q ≡ Some p → Holds K (score_in o) p
  held_by None None p a e = absurd (grind arith)
  held_by None (Some q) p a e = absurd a
  held_by (Some s) None p a e = absurd a
  held_by (Some s) (Some q) p a e = subst (λ (z : Option Page). Agrees K (Some s) z) e a

  module _ {S P : Type 0} (start : S → ℕ → P) (entered : S → Entry → P → P) (law : InEitherOrder entered) where
    -- a score is drawn by what it means
    by_meaning : (settings : S) (s : Score) (n : ℕ) (xs : List Placed) → Means K s n xs → drawn_score (start settings) (entered settings) K s ≡ drawn (start settings) (entered settings) K n xs
    by_meaning settings s n xs m =
        ap (λ k. entered_all (entered settings) (map (entry_of K) (placed K s)) (start settings k)) m.0
        ∙ permuted_drawn (entered settings) (law settings) (start settings n) (permuted_map (entry_of K) (bag_permuted (placed K s) xs m.1))

    module _ (shelf : Shelf) (l : Ledger) (st : Stands K shelf l) where
      two_places : (a b : ℕ) (p q : Page) → page l a ≡ Some p → page l b ≡ Some q → TwoPlaces K start entered shelf a b p q
      two_places a b p q e f =
          let s = score_held shelf a in
          let t = score_held shelf b in
          let h = held_by (at shelf a) (page l a) p (st.each a) e in
          let k = held_by (at shelf b) (page l b) q (st.each b) f in
          let chains : (X : Type 0) → X ↔ Chain K s t → X ↔ Chain K p.score q.score = λ X i. subst (λ z. X ↔ Chain K z q.score) h.is (subst (λ z. X ↔ Chain K s z) k.is i) in
          let back : Chain K p.score q.score → Chain K s t = λ c. subst (λ z. Chain K z t) (sym h.is) (subst (λ z. Chain K p.score z) (sym k.is) c) in
          record {
            bytes = chains _ (bytes_decide K laws s t h.holdable k.holdable);
            same = λ c r. chains _ (same_exactly K s t c (answered (both_holding shelf a b) (compared K s t) c r));
            says = λ c r. says_by s t p q h k (meant c) ((only_answer K s t c (answered (both_holding shelf a b) (compared K s t) c r) laws.order h.holdable.legal k.holdable.legal (meant c)).1 refl);
            drawing = λ settings. by_meaning settings s p.long p.bag h.means;
            alike = λ c settings.
                by_meaning settings s p.long p.bag h.means
                ∙ sym (by_meaning settings t p.long p.bag (chain_means K s t p.long p.bag h.means (back c)));
          }

      pub certified : Certified K start entered shelf l
      certified = record { stands = st; any_two = two_places }
