-- What a rack's places hold, by its nodes and its notes.
use Rattle.std.proofs.Common.{◌≡◌, ℕ, zero, suc, ◌+◌, ◌*◌, ◌/◌, ◌<◌, ◌≤◌, not, List, [], ◌∷◌, ◌++◌, map, length, get_or, take, drop, replicate, is_some, true, Some, None, Ok, Err, Option, sym, refl, ap, ◌∙◌, subst, ⊎_elim, arith}
use Rattle.std.specs.List.{range_with_len}
use Rattle.std.proofs.lemmas.List.FromFn.{length-map-range_with_len, get_or-map-range_with_len}
use Rattle.std.proofs.lemmas.Bool.{cases_lt}
use Rattle.std.proofs.lemmas.List.{take-map, drop-map, length-map}
use Rattle.algebra.specs.declared.numbers.Numbers.{Numbers}
use Rattle.algebra.specs.declared.node.Node.{Node}
use Rattle.algebra.specs.Kind.{KindModel, LengthLaws}
use Rattle.algebra.specs.Score.{Score, nodes}
use Rattle.algebra.specs.Layout.{seen, view, preorder, score_of}
use Rattle.algebra.specs.Limits.{Fits, Holdable}
use Rattle.nodes.specs.Standing.{standing_score, Limited}
use Rattle.nodes.proofs.Lengths.{legal_row}
use Rattle.nodes.proofs.Parts.{length_preorder}
use Rattle.nodes.proofs.Shapes.{score_preorder}
use Rattle.refusals.specs.declared.refusal.Refusal.TheVariants.{EmptyPlace, FullPlace}
use Rattle.refusals.specs.declared.refusal.Refusal.{Refusal}
use Rattle.refusals.specs.Checks.{Check, passed, unless, all}
use Rattle.rack.specs.declared.place.Place.{Place}
use Rattle.rack.specs.Places.{number, used, place_at, held_at, shelf, Noted, Sound}
use Rattle.rack.specs.Shelves.{Shelf, at}
use Rattle.rack.specs.Checks.{holding, vacant}

-- the segment of a place lies within the nodes
pub segment_within : {X : Type 0} (ns : List X) (p : ℕ) → p < number ns → p * 1023 + 1023 ≤ length ns
segment_within ns p h = omega (arith, div_within (length ns))
  where
    div_within : (n : ℕ) → n / 1023 * 1023 ≤ n
    div_within n = omega arith

-- what the checks say of a place, by what it holds
module _ (held : Shelf) (p : ℕ) where
  pub holding_no : at held p ≡ None → holding held p ≡ Err (EmptyPlace p)
  holding_no e = ap (λ o. unless (is_some o) (EmptyPlace p)) e

  pub holding_yes : (s : Score) → at held p ≡ Some s → holding held p ≡ passed
  holding_yes s e = ap (λ o. unless (is_some o) (EmptyPlace p)) e

  pub vacant_yes : at held p ≡ None → vacant held p ≡ passed
  vacant_yes e = ap (λ o. unless (not (is_some o)) (FullPlace p)) e

  pub vacant_no : (s : Score) → at held p ≡ Some s → vacant held p ≡ Err (FullPlace p)
  vacant_no s e = ap (λ o. unless (not (is_some o)) (FullPlace p)) e

past_end : {X : Type 0} (xs : List X) (p : ℕ) (d : X) → length xs ≤ p → get_or xs p d ≡ d
past_end [] p d h = refl
past_end (x ∷ xs) zero d h = absurd (omega arith)
past_end (x ∷ xs) (suc p) d h = past_end xs p d (omega arith)

module _ {P : Type 0} (f : P → Numbers) (ns : List (Node P)) (places : List (Option Place)) where
  pub length_shelf : length (shelf f ns places) ≡ number ns
  length_shelf = length-map-range_with_len (λ p. held_at (view f ns) p (place_at places p)) 0 (number ns)

  pub at_any : (p : ℕ) (d : Option Score) → p < number ns → get_or (shelf f ns places) p d ≡ held_at (view f ns) p (place_at places p)
  at_any p d h = get_or-map-range_with_len (λ p. held_at (view f ns) p (place_at places p)) 0 (number ns) p p d h (omega arith)

  -- nothing is held where nothing is noted
  pub at_empty : (p : ℕ) → place_at places p ≡ None → at (shelf f ns places) p ≡ None
  at_empty p e = ⊎_elim
      (λ h. at_any p None h ∙ ap (held_at (view f ns) p) e)
      (λ h. past_end (shelf f ns places) p None (omega (arith, length_shelf)))
      (cases_lt p (number ns))

  -- a score is held where one is noted
  pub at_full : (K : KindModel) (p : ℕ) (place : Place) → place_at places p ≡ Some place → (n : Noted K f ns p place) → at (shelf f ns places) p ≡ Some n.score
  at_full K p place e n = at_any p None n.there ∙ ap (held_at (view f ns) p) e ∙ ap (λ xs. Some (score_of xs)) n.stands ∙ ap Some (score_preorder n.score)

pub some_same : {X : Type 0} {x y : X} → Some x ≡ Some y → x ≡ y
some_same e = cc

pub none_some : {X A : Type 0} {x : X} → None ≡ Some x → A
none_some e = absurd (grind arith)

-- a place that is told to be empty holds nothing
pub vacant_none : (held : Shelf) (p : ℕ) (u : Unit {0}) → Ok u ≡ vacant held p → at held p ≡ None
vacant_none held p u h = by_score (at held p) refl h
  where
    by_score : (o : Option Score) → at held p ≡ o → Ok u ≡ unless (not (is_some o)) (FullPlace p) → at held p ≡ None
    by_score None e h = e
    by_score (Some s) e h = absurd (grind arith)

-- a rack at its start
none_noted : (n p : ℕ) → place_at (replicate n None) p ≡ None
none_noted zero p = refl
none_noted (suc n) zero = refl
none_noted (suc n) (suc p) = none_noted n p

all_none : {X : Type 0} (g : ℕ → Option X) → ((p : ℕ) → g p ≡ None) → (a n : ℕ) → map g (range_with_len a n) ≡ replicate n None
all_none g none a zero = refl
all_none g none a (suc n) = ap (λ o. o ∷ map g (range_with_len (a + 1) n)) (none a) ∙ ap (λ os. None ∷ os) (all_none g none (a + 1) n)

pub shelf_start : {P : Type 0} (f : P → Numbers) (ns : List (Node P)) → shelf f ns (replicate 8 None) ≡ replicate (number ns) None
shelf_start f ns = all_none _ (λ p. ap (held_at (view f ns) p) (none_noted 8 p)) 0 (number ns)

-- the nodes of a place's segment that code lends
pub lent_used : {P : Type 0} (f : P → Numbers) (ns : List (Node P)) (p n : ℕ) {row : List (Node P)} → row ≡ take n (drop (p * 1023) ns) → view f row ≡ used (view f ns) p n
lent_used f ns p n e = ap (view f) e ∙ sym (take-map (seen f) n (drop (p * 1023) ns)) ∙ ap (take n) (sym (drop-map (seen f) (p * 1023) ns))

-- the nodes of a score that a place has room for are no more than a place has
pub few_nodes : {K : KindModel} {P : Type 0} (f : P → Numbers) (row : List (Node P)) (s : Score) → view f row ≡ preorder s → Fits K s → length row ≤ 1023
few_nodes f row s e h = omega (arith, length-map row (seen f), ap length e, length_preorder s, h.few_nodes)

-- checks that fail, whatever others say behind them
pub all_first : (xs ys : List Check) (e : Refusal) → Err e ≡ all xs → Err e ≡ all (xs ++ ys)
all_first [] ys e h = absurd (grind arith)
all_first (Ok u ∷ xs) ys e h = all_first xs ys e h
all_first (Err e' ∷ xs) ys e h = h

-- a score that a place has room for may be held
pub holdable : (K : KindModel) {s t : Score} → s ≡ t → Limited K t → Fits K t → Holdable K s
holdable K e l f = subst (Holdable K) (sym e) (record { legal = l.legal; fits = f })

-- the score of nodes of a kind that a place has room for may be held
pub row_holdable : (K : KindModel) (laws : LengthLaws K) {P : Type 0} (f : P → Numbers) → ((x : P) → K.legal (f x) ≡ true) → (row : List (Node P)) → {s : Score} → s ≡ standing_score f row → Fits K (standing_score f row) → Holdable K s
row_holdable K laws f ok row e fits = subst (Holdable K) (sym e) (record { legal = legal_row K laws f ok row; fits = fits })

-- where a score is held, one is noted that stands there
module _ {P : Type 0} (K : KindModel) (f : P → Numbers) (ns : List (Node P)) (places : List (Option Place)) (sound : Sound K f ns places) where
  pub record Standing (p : ℕ) (s : Score) : Type 0 where
    pub place : Place
    pub noted : place_at places p ≡ Some place
    pub there : p < number ns
    pub stands : used (view f ns) p (nodes s) ≡ preorder s
    pub fits : Fits K s

  pub standing : (p : ℕ) (s : Score) → at (shelf f ns places) p ≡ Some s → Standing p s
  standing p s e = by_note (place_at places p) refl
    where
      by_note : (o : Option Place) → place_at places p ≡ o → Standing p s
      by_note None q = none_some (sym (at_empty f ns places p q) ∙ e)
      by_note (Some place) q =
          let n = sound.true p place q in
          let is : n.score ≡ s = some_same (sym (at_full f ns places K p place q n) ∙ e) in
          record {
            place = place;
            noted = q;
            there = n.there;
            stands = ap (used (view f ns) p) (sym (n.counts.nodes_are ∙ ap nodes is)) ∙ n.stands ∙ ap preorder is;
            fits = subst (Fits K) is n.fits;
          }

  -- so it may be held
  pub held_holdable : LengthLaws K → ((x : P) → K.legal (f x) ≡ true) → (p : ℕ) (s : Score) → at (shelf f ns places) p ≡ Some s → Holdable K s
  held_holdable laws ok p s e =
      let x = standing p s e in
      let row = take (nodes s) (drop (p * 1023) ns) in
      let is : standing_score f row ≡ s = ap score_of (lent_used f ns p (nodes s) refl ∙ x.stands) ∙ score_preorder s in
      row_holdable K laws f ok row (sym is) (subst (Fits K) (sym is) x.fits)
