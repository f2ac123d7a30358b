-- What a call puts at a place is as the page says that it enters.
use Rattle.std.proofs.Common.{◌≡◌, ℕ, Some, None, Option, sym, refl, ap, ◌∙◌, subst, ap₂}
use Rattle.algebra.specs.Kind.{KindModel, KindLaws}
use Rattle.algebra.specs.Score.{Score, Score.rest, Score.sequence, Score.parallel}
use Rattle.algebra.specs.Cuts.{taken, dropped, reversed}
use Rattle.algebra.specs.Normal.{normal}
use Rattle.algebra.specs.Rules.{Chain, Chain.done, Chain.more}
use Rattle.algebra.specs.Limits.{Fits, Holdable}
use Rattle.algebra.proofs.Complete.{normal_reached}
use Rattle.algebra.proofs.Legal.{chain_legal}
use Rattle.algebra.proofs.Meanings.{join_means, chain_means, take_means, drop_means, reverse_means}
use Rattle.algebra.proofs.OtherSides.{none_some}
use Rattle.algebra.proofs.Rewrite.{rewrites_step}
use Rattle.rewriting.specs.declared.step.Step.{Step}
use Rattle.building.specs.Steps.{stepped}
use Rattle.ledger.specs.Ledgers.{Page, load_page, rest_page, sequence_page, parallel_page, reverse_page, take_page, drop_page, normal_page, rescored}
use Rattle.ledger.specs.Stands.{Holds, Agrees}

module _ (K : KindModel) where
  pub load_holds : (s : Score) → Holdable K s → Holds K s (load_page K s)
  load_holds s h = record { is = refl; means = (refl, λ x. refl); holdable = h }

  pub rest_holds : (d : ℕ) → Fits K (rest d) → Holds K (rest d) (rest_page d)
  rest_holds d w = record { is = refl; means = (refl, λ x. refl); holdable = record { legal = tt; fits = w } }

  pub sequence_holds : (s t : Score) (p q : Page) → Holds K s p → Holds K t q → Fits K (sequence s t) → Holds K (sequence s t) (sequence_page p q)
  sequence_holds s t p q h k w = record {
    is = ap₂ sequence h.is k.is;
    means = (join_means K s t p.long q.long p.bag q.bag h.means k.means).0;
    holdable = record { legal = (h.holdable.legal, k.holdable.legal); fits = w };
  }

  pub parallel_holds : (s t : Score) (p q : Page) → Holds K s p → Holds K t q → Fits K (parallel s t) → Holds K (parallel s t) (parallel_page p q)
  parallel_holds s t p q h k w = record {
    is = ap₂ parallel h.is k.is;
    means = (join_means K s t p.long q.long p.bag q.bag h.means k.means).1;
    holdable = record { legal = (h.holdable.legal, k.holdable.legal); fits = w };
  }

  -- a score at the end of a chain from the page's
  chain_holds : (s t : Score) (p : Page) → Holds K s p → Chain K s t → Fits K t → Holds K t (record { score = t; long = p.long; bag = p.bag })
  chain_holds s t p h c w = record {
    is = refl;
    means = chain_means K s t p.long p.bag h.means c;
    holdable = record { legal = chain_legal K s t h.holdable.legal c; fits = w };
  }

  pub normal_holds : (s : Score) (p : Page) → Holds K s p → Fits K (normal K s) → Holds K (normal K s) (normal_page K p)
  normal_holds s p h w =
      let n = chain_holds s (normal K s) p h (normal_reached K s) w in
      record { is = ap (normal K) h.is; means = n.means; holdable = n.holdable }

  stepped_chain : (o : Option Step) (node : ℕ) (s t : Score) → stepped K o node s ≡ Some t → Chain K s t
  stepped_chain None node s t e = none_some e
  stepped_chain (Some step) node s t e = more (rewrites_step K step.rule step.way step.split node s t e) done

  pub rewrite_agrees : (o : Option Step) (node : ℕ) (s t : Score) (p : Page) → Holds K s p → stepped K o node s ≡ Some t → Fits K t
      → Agrees K (Some t) (rescored p (stepped K o node p.score))
  rewrite_agrees o node s t p h e w =
      let there : rescored p (stepped K o node p.score) ≡ Some (record { score = t; long = p.long; bag = p.bag }) =
      ap (λ z. rescored p (stepped K o node z)) (sym h.is) ∙ ap (rescored p) e in
      subst (λ (q : Option Page). Agrees K (Some t) q) (sym there) (chain_holds s t p h (stepped_chain o node s t e) w)

  module _ (laws : KindLaws K) where
    pub reverse_holds : (s : Score) (p : Page) → Holds K s p → Fits K (reversed K s) → Holds K (reversed K s) (reverse_page K p)
    reverse_holds s p h w =
        let m = reverse_means K laws.reverses s p.long p.bag h.holdable.legal h.means in
        record { is = ap (reversed K) h.is; means = m.1; holdable = record { legal = m.0; fits = w } }

    pub take_holds : (t : ℕ) (s : Score) (p : Page) → Holds K s p → Fits K (taken K t s) → Holds K (taken K t s) (take_page K t p)
    take_holds t s p h w =
        let m = take_means K laws.lengths laws.cuts t s p.long p.bag h.holdable.legal h.means in
        record { is = ap (taken K t) h.is; means = m.1; holdable = record { legal = m.0; fits = w } }

    pub drop_holds : (t : ℕ) (s : Score) (p : Page) → Holds K s p → Fits K (dropped K t s) → Holds K (dropped K t s) (drop_page K t p)
    drop_holds t s p h w =
        let m = drop_means K laws.lengths laws.cuts t s p.long p.bag h.holdable.legal h.means in
        record { is = ap (dropped K t) h.is; means = m.1; holdable = record { legal = m.0; fits = w } }
