-- What a rack holds after a write into the segment of one of its places.
use Rattle.std.proofs.Common.{◌≡◌, ℕ, ◌+◌, ◌*◌, ◌/◌, ◌<◌, ◌≤◌, min, ◌≢◌, ◌⊎◌, List, length, get_or, take, drop, set, Some, None, Option, sym, refl, ap, ◌∙◌, subst, inl, inr, ⊎_elim, arith}
use Rattle.std.proofs.lemmas.Bool.{cases_eq}
use Rattle.std.proofs.lemmas.List.{same_lists, length-map, length-set, get_or-set_same, get_or-set_other}
use Rattle.algebra.specs.declared.numbers.Numbers.{Numbers}
use Rattle.algebra.specs.declared.node.Node.{Node}
use Rattle.algebra.specs.Kind.{KindModel}
use Rattle.algebra.specs.Score.{Score}
use Rattle.algebra.specs.Limits.{Fits}
use Rattle.algebra.specs.Layout.{seen, preorder, view, score_of}
use Rattle.nodes.specs.Rows.{overlaid}
use Rattle.nodes.proofs.Parts.{length_preorder}
use Rattle.nodes.proofs.Overlays.{front_same, back_same, overlaid_before, overlaid_here, overlaid_after, overlaid_length}
use Rattle.nodes.proofs.Shapes.{score_preorder}
use Rattle.building.specs.declared.size.Size.{Size}
use Rattle.building.specs.Sizes.{size_of}
use Rattle.rack.specs.declared.place.Place.{Place}
use Rattle.rack.specs.Places.{number, place_of, used, place_at, held_at, shelf, Counts, Noted, Sound}
use Rattle.rack.proofs.Shelves.{segment_within, length_shelf, at_any}

-- the note of a score's size is true
pub counts_of : (K : KindModel) (s : Score) (size : Size) (place : Place) → place ≡ place_of size → size ≡ size_of K s → Counts place s
counts_of K s size place e d =
    record { nodes_are = ap (λ (q : Place). q.nodes) e ∙ ap (λ (z : Size). z.nodes) d; primitives_are = ap (λ (q : Place). q.primitives) e ∙ ap (λ (z : Size). z.primitives) d }

-- Nodes became others, but for the segment of a place as they were.
pub record Kept (xs xs' : List (Node Numbers)) (to : ℕ) : Type 0 where
  pub as_long : length xs' ≡ length xs
  pub before : take (to * 1023) xs' ≡ take (to * 1023) xs
  pub beyond : drop (to * 1023 + 1023) xs' ≡ drop (to * 1023 + 1023) xs

module _ {P : Type 0} (K : KindModel) (f : P → Numbers) (ns ns' : List (Node P)) (places : List (Option Place)) (sound : Sound K f ns places)
    (to : ℕ) (there : to < number ns) (kept : Kept (view f ns) (view f ns') to) (o : Option Place) (now : (place : Place) → o ≡ Some place → Noted K f ns' to place) where
  same_number : number ns' ≡ number ns
  same_number = ap (λ n. min 8 (n / 1023)) (sym (length-map ns' (seen f)) ∙ kept.as_long ∙ length-map ns (seen f))

  place_here : place_at (set places to o) to ≡ o
  place_here = get_or-set_same places to o None (omega (arith, sound.eight, there))

  place_other : (p : ℕ) → p ≢ to → place_at (set places to o) p ≡ place_at places p
  place_other p ne = get_or-set_other places to p o None ne

  used_other : (p n : ℕ) → n ≤ 1023 → p ≢ to → used (view f ns') p n ≡ used (view f ns) p n
  used_other p n le ne = elim (side p ne) [
    | inl l ↦ front_same (view f ns) (view f ns') (p * 1023) n (to * 1023) (omega arith) kept.before
    | inr l ↦ ap (take n) (back_same (view f ns) (view f ns') (p * 1023) (to * 1023 + 1023) (omega arith) kept.beyond)
  ]
    where
      side : (p : ℕ) → p ≢ to → (p < to) ⊎ (to < p)
      side p ne = grind arith

  noted_small : (p : ℕ) (place : Place) → place_at places p ≡ Some place → place.nodes ≤ 1023
  noted_small p place e = let n = sound.true p place e in omega (arith, n.counts.nodes_are, n.fits.few_nodes)

  held_other : (p : ℕ) → p ≢ to → (o' : Option Place) → place_at places p ≡ o' → held_at (view f ns') p o' ≡ held_at (view f ns) p o'
  held_other p ne None e = refl
  held_other p ne (Some place) e = ap (λ row. Some (score_of row)) (used_other p place.nodes (noted_small p place e) ne)

  pub sound_after : Sound K f ns' (set places to o)
  sound_after = record { eight = length-set places to o ∙ sound.eight; true = each }
    where
      each : (p : ℕ) (place : Place) → place_at (set places to o) p ≡ Some place → Noted K f ns' p place
      each p place e = ⊎_elim
          (λ same. subst (λ (q : ℕ). Noted K f ns' q place) (sym same) (now place (sym place_here ∙ ap (place_at (set places to o)) (sym same) ∙ e)))
          (λ ne.
          let is = sym (place_other p ne) ∙ e in
          let n = sound.true p place is in
          record {
            there = subst (λ (m : ℕ). p < m) (sym same_number) n.there;
            score = n.score;
            stands = used_other p place.nodes (noted_small p place is) ne ∙ n.stands;
            counts = n.counts;
            fits = n.fits;
          })
          (cases_eq p to)

  pub shelf_after : shelf f ns' (set places to o) ≡ set (shelf f ns places) to (held_at (view f ns') to o)
  shelf_after = same_lists _ _ lengths each
    where
      held : Option Score
      held = held_at (view f ns') to o

      lengths : length (shelf f ns' (set places to o)) ≡ length (set (shelf f ns places) to (held_at (view f ns') to o))
      lengths = length_shelf f ns' (set places to o) ∙ same_number ∙ sym (length_shelf f ns places) ∙ sym (length-set (shelf f ns places) to (held_at (view f ns') to o))

      each : (k : ℕ) (d : Option Score) → k < length (shelf f ns' (set places to o)) → get_or (shelf f ns' (set places to o)) k d ≡ get_or (set (shelf f ns places) to (held_at (view f ns') to o)) k d
      each k d h =
          let h' : k < number ns' = subst (λ (n : ℕ). k < n) (length_shelf f ns' (set places to o)) h in
          let k_in : k < number ns = subst (λ (n : ℕ). k < n) same_number h' in
          let to_in : to < length (shelf f ns places) = subst (λ (n : ℕ). to < n) (sym (length_shelf f ns places)) there in
          at_any f ns' (set places to o) k d h' ∙
          ⊎_elim
          (λ e. ap (λ n. held_at (view f ns') n (place_at (set places to o) n)) e ∙ ap (held_at (view f ns') to) place_here
          ∙ sym (get_or-set_same (shelf f ns places) to (held_at (view f ns') to o) d to_in) ∙ ap (λ n. get_or (set (shelf f ns places) to (held_at (view f ns') to o)) n d) (sym e))
          (λ ne. ap (held_at (view f ns') k) (place_other k ne) ∙ held_other k ne (place_at places k) refl ∙ sym (at_any f ns places k d k_in)
          ∙ sym (get_or-set_other (shelf f ns places) to k (held_at (view f ns') to o) d ne))
          (cases_eq k to)

-- a score's nodes written over the front of a segment
module _ {P : Type 0} (K : KindModel) (f : P → Numbers) (ns ns' : List (Node P)) (places : List (Option Place)) (sound : Sound K f ns places)
    (to : ℕ) (there : to < number ns) (s : Score) (place : Place) (e : view f ns' ≡ overlaid (view f ns) (to * 1023) (preorder s)) (counts : Counts place s) (fits : Fits K s) where
  room : to * 1023 + length (preorder s) ≤ length (view f ns)
  room = omega (arith, segment_within ns to there, length-map ns (seen f), length_preorder s, fits.few_nodes)

  kept : Kept (view f ns) (view f ns') to
  kept =
      let at = to * 1023 in
      let row = preorder s in
      let after : drop (at + length row) (view f ns') ≡ drop (at + length row) (view f ns) = ap (drop (at + length row)) e ∙ overlaid_after (view f ns) at row room in
      record {
        as_long = ap length e ∙ overlaid_length (view f ns) at row room;
        before = ap (take at) e ∙ overlaid_before (view f ns) at row room;
        beyond = back_same (view f ns) (view f ns') (at + 1023) (at + length row) (omega (arith, length_preorder s, fits.few_nodes)) after;
      }

  stands : used (view f ns') to place.nodes ≡ preorder s
  stands =
      ap (λ n. used (view f ns') to n) (counts.nodes_are ∙ sym (length_preorder s)) ∙ ap (λ ys. take (length (preorder s)) (drop (to * 1023) ys)) e
      ∙ overlaid_here (view f ns) (to * 1023) (preorder s) room

  now : (q : Place) → Some place ≡ Some q → Noted K f ns' to q
  now q is =
      subst (λ (q : Place). Noted K f ns' to q) (some_same is) (record {
        there = omega (arith, there, ap length e, overlaid_length (view f ns) (to * 1023) (preorder s) room, length-map ns (seen f), length-map ns' (seen f));
        score = s;
        stands = stands;
        counts = counts;
        fits = fits;
      })
    where
      some_same : {x y : Place} → Some x ≡ Some y → x ≡ y
      some_same e = grind arith

  pub put_sound : Sound K f ns' (set places to (Some place))
  put_sound = sound_after K f ns ns' places sound to there kept (Some place) now

  pub put_shelf : shelf f ns' (set places to (Some place)) ≡ set (shelf f ns places) to (Some s)
  put_shelf =
      shelf_after K f ns ns' places sound to there kept (Some place) now
      ∙ ap (λ row. set (shelf f ns places) to (Some (score_of row))) stands ∙ ap (λ t. set (shelf f ns places) to (Some t)) (score_preorder s)

-- a place emptied
module _ {P : Type 0} (K : KindModel) (f : P → Numbers) (ns : List (Node P)) (places : List (Option Place)) (sound : Sound K f ns places) (to : ℕ) (there : to < number ns) where
  as_before : Kept (view f ns) (view f ns) to
  as_before = record { as_long = refl; before = refl; beyond = refl }

  none : (place : Place) → None ≡ Some place → Noted K f ns to place
  none place e = absurd (grind arith)

  pub empty_sound : Sound K f ns (set places to None)
  empty_sound = sound_after K f ns ns places sound to there as_before None none

  pub empty_shelf : shelf f ns (set places to None) ≡ set (shelf f ns places) to None
  empty_shelf = shelf_after K f ns ns places sound to there as_before None none
