-- Lines put one after the other.
use Rattle.std.proofs.Common.{◌≡◌, ℕ, ◌+◌, ◌-◌, ◌*◌, ◌<◌, ◌≤◌, List, [], ◌∷◌, ◌++◌, length, get_or, take, sym, refl, ap, ◌∙◌, subst, arith}
use Rattle.std.proofs.Math.Seq.{get_or-append_seam}
use Rattle.std.proofs.lemmas.List.{length-map, length-append, length-take-le, take_all, map-append, map_more, get_or_append_left}
use Rattle.algebra.specs.declared.numbers.Numbers.{Numbers}
use Rattle.algebra.specs.declared.node.Node.{Node}
use Rattle.algebra.specs.declared.node.Node.TheVariants.{Parallel}
use Rattle.algebra.specs.Kind.{KindModel, LegalNumbers}
use Rattle.algebra.specs.Layout.{preorder}
use Rattle.algebra.specs.Score.{Placed, nodes}
use Rattle.nodes.specs.Lists.{Listed}
use Rattle.nodes.proofs.Lists.{put_long, put_both}
use Rattle.nodes.proofs.Parts.{length_preorder}
use Rattle.normal.specs.declared.placed.PlacedNumbers.{PlacedNumbers}
use Rattle.normal.specs.Placing.{placed_of, all_placed, AllLegal}
use Rattle.normal.specs.Writing.{line_of, lines_of}
use Rattle.normal.proofs.Placings.{legal_at}

module _ (K : KindModel) (n : ℕ) where
  -- lines with a parallel node in front of each, as they stand before the last line
  abbrev pub opened : List Placed → List (Node Numbers)
  opened [] = []
  opened (x ∷ xs) = Parallel ∷ (preorder (line_of K n x) ++ opened xs)

  length_opened : (xs : List Placed) → length (opened xs) ≡ 6 * length xs
  length_opened [] = refl
  length_opened (x ∷ xs) = omega (arith, length_opened xs)

  opened_more : (xs : List Placed) (x : Placed) → opened (xs ++ (x ∷ [])) ≡ opened xs ++ (Parallel ∷ preorder (line_of K n x))
  opened_more [] x = refl
  opened_more (y ∷ xs) x = ap (λ zs. Parallel ∷ (preorder (line_of K n y) ++ zs)) (opened_more xs x)

  closed : (xs : List Placed) (x : Placed) → opened xs ++ preorder (line_of K n x) ≡ preorder (lines_of K n (xs ++ (x ∷ [])))
  closed [] x = refl
  closed (y ∷ []) x = refl
  closed (y ∷ (z ∷ xs)) x = ap (λ zs. Parallel ∷ (preorder (line_of K n y) ++ zs)) (closed (z ∷ xs) x)

-- the lines of placed primitives stand so in a list behind what it held, in the same room
pub record LinesStand (K : KindModel) (n : ℕ) (old new : Listed) (xs : List PlacedNumbers) : Type 0 where
  pub items : new.items ≡ old.items ++ opened K n (all_placed xs)
  pub room : new.room ≡ old.room

-- placed primitives, of which the last stands apart from the rest
module _ (K : KindModel) (items rest : List PlacedNumbers) (last : PlacedNumbers) (is : items ≡ rest ++ (last ∷ [])) where
  long : length items ≡ length rest + 1
  long = ap length is ∙ length-append rest (last ∷ [])

  module _ (legal : AllLegal K (all_placed items)) where
    pub legal_last : LegalNumbers K last.numbers
    legal_last =
        subst (λ (x : PlacedNumbers). LegalNumbers K x.numbers) (ap (λ ys. get_or ys (length rest) last) is ∙ get_or-append_seam rest last [] last)
        (legal_at K items (length rest) last (omega (arith, long)) legal)

    pub legal_rest : (i : ℕ) (d : PlacedNumbers) → i < length rest → LegalNumbers K (get_or rest i d).numbers
    legal_rest i d h =
        subst (λ (x : PlacedNumbers). LegalNumbers K x.numbers) (ap (λ ys. get_or ys i d) is ∙ get_or_append_left rest (last ∷ []) d i h)
        (legal_at K items i d (omega (arith, long)) legal)

  module _ (n : ℕ) where
    all : opened K n (all_placed rest) ++ preorder (line_of K n (placed_of last)) ≡ preorder (lines_of K n (all_placed items))
    all = closed K n (all_placed rest) (placed_of last) ∙ ap (λ ys. preorder (lines_of K n ys)) (sym (ap all_placed is ∙ map-append placed_of rest (last ∷ [])))

    -- some lines stand in a list behind what it held, in the same room
    module _ (old new : Listed) (k : ℕ) (stand : LinesStand K n old new (take k rest)) where
      -- there is room for the others
      pub room : k ≤ length rest → length old.items + nodes (lines_of K n (all_placed items)) ≤ old.room → length new.items + 6 * (length rest - k) + 5 ≤ new.room
      room h fits =
          let here = length_opened K n (all_placed (take k rest)) in
          let taken = length-map (take k rest) placed_of in
          let there = length_opened K n (all_placed rest) in
          let ends = length-append (opened K n (all_placed rest)) (preorder (line_of K n (placed_of last))) in
          omega (arith, put_long old.items _ stand.items, stand.room, length-take-le k rest h, length-map rest placed_of, ap length all, length_preorder (lines_of K n (all_placed items)))

      pub one_more : (d : PlacedNumbers) → k < length rest → {next last : Listed} → next.items ≡ new.items ++ (Parallel ∷ []) → next.room ≡ new.room
          → last.items ≡ next.items ++ preorder (line_of K n (placed_of (get_or rest k d))) → last.room ≡ next.room → LinesStand K n old last (take (k + 1) rest)
      one_more d h a r b q =
          record {
            items =
                put_both old.items (opened K n (all_placed (take k rest))) (Parallel ∷ preorder (line_of K n (placed_of (get_or rest k d)))) stand.items (put_both new.items (Parallel ∷ []) _ a b)
                ∙ ap (λ ys. old.items ++ ys) (sym (ap (opened K n) (map_more placed_of rest k d h) ∙ opened_more K n (all_placed (take k rest)) (placed_of (get_or rest k d))));
            room = q ∙ r ∙ stand.room;
          }

      pub the_last : length rest ≤ k → {end : List (Node Numbers)} → end ≡ new.items ++ preorder (line_of K n (placed_of last)) → end ≡ old.items ++ preorder (lines_of K n (all_placed items))
      the_last h e =
          put_both old.items (opened K n (all_placed rest)) (preorder (line_of K n (placed_of last))) (stand.items ∙ ap (λ ys. old.items ++ opened K n (all_placed ys)) (take_all k rest h)) e
          ∙ ap (λ ys. old.items ++ ys) all
