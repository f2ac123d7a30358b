-- How large the result of a change is.
use Rattle.std.proofs.Common.{◌≡◌, ℕ, ◌+◌, ◌≤◌, List, [], ◌++◌, length, sym, refl, ap, ◌∙◌, subst, arith}
use Rattle.algebra.specs.declared.numbers.Numbers.{Numbers}
use Rattle.algebra.specs.declared.node.Node.{Node}
use Rattle.algebra.specs.Kind.{KindModel, KindLaws}
use Rattle.algebra.specs.Score.{Score, Legal, nodes, primitives, score_length}
use Rattle.algebra.specs.Layout.{preorder}
use Rattle.algebra.specs.Normal.{normal}
use Rattle.algebra.proofs.Sizes.{normal_fits}
use Rattle.algebra.proofs.CutSizes.{cut_size}
use Rattle.algebra.proofs.Complete.{self_after, normal_reached}
use Rattle.algebra.proofs.Sound.{chain_kept}
use Rattle.algebra.proofs.Take.{taken_made}
use Rattle.algebra.proofs.Drop.{dropped_made}
use Rattle.algebra.proofs.Reverse.{reversed_made}
use Rattle.nodes.specs.Lists.{Listed}
use Rattle.nodes.specs.Standing.{Limited}
use Rattle.nodes.proofs.Lists.{put_long}
use Rattle.nodes.proofs.Parts.{length_preorder}
use Rattle.building.specs.declared.change.Change.{Change}
use Rattle.building.specs.declared.change.Change.TheVariants.{Reverse, Take, Drop, Normalise}
use Rattle.building.specs.Changes.{changed, changed_length}

module _ (K : KindModel) (s : Score) where
  -- a normal form has few nodes
  normal_nodes : primitives s ≤ 170 → nodes (normal K s) ≤ 1019
  normal_nodes few = let P : Score → Type 0 = λ t. (primitives t ≤ 170) × (nodes t ≤ 1019) in (subst P (self_after K s) ((normal_fits K s s).0 few)).1

  -- only a reverse has more nodes than there is room for
  pub changed_nodes : (change : Change) → (change ≡ Reverse → ⊥) → Limited K s → nodes (changed K change s) ≤ 1023
  changed_nodes Reverse not l = absurd (not refl)
  changed_nodes (Take t) not l = omega (arith, (cut_size K t s).1, l.small)
  changed_nodes (Drop t) not l = omega (arith, (cut_size K t s).3, l.small)
  changed_nodes Normalise not l = omega (arith, normal_nodes l.few)

  -- the length of the result
  pub length_changed : KindLaws K → Legal K s → (change : Change) → score_length K (changed K change s) ≡ changed_length change (score_length K s)
  length_changed laws legal Reverse = (reversed_made K laws.reverses s legal).length
  length_changed laws legal (Take t) = (taken_made K laws.lengths laws.cuts t s legal).length
  length_changed laws legal (Drop t) = (dropped_made K laws.lengths laws.cuts t s legal).length
  length_changed laws legal Normalise = sym (chain_kept (normal_reached K s)).length

  -- what a change has put behind the nodes of a list
  pub record ChangePut (change : Change) (xs ys : Listed) : Type 0 where
    pub row : ys.items ≡ xs.items ++ preorder (changed K change s)
    pub room : ys.room ≡ xs.room
    pub few : nodes (changed K change s) ≤ 1023

  pub change_put : (change x : Change) {xs ys : Listed} → change ≡ x → nodes (changed K x s) ≤ 1023 → ys.items ≡ xs.items ++ preorder (changed K x s) → ys.room ≡ xs.room → ChangePut change xs ys
  change_put change x {xs} is few row room =
      let same = ap (λ y. changed K y s) is in
      record { row = row ∙ ap (λ t. xs.items ++ preorder t) (sym same); room = room; few = omega (arith, ap nodes same) }

  -- it is not more than one score may have
  pub put_small : (change : Change) {xs ys : Listed} → ChangePut change xs ys → length ys.items ≤ length xs.items + 1023
  put_small change {xs} p = omega (arith, put_long xs.items (preorder (changed K change s)) p.row, length_preorder (changed K change s), p.few)

  -- what a change puts into an empty list, and its length
  pub record ChangeMade (change : Change) (xs : List (Node Numbers)) (n : ℕ) : Type 0 where
    pub nodes_are : xs ≡ preorder (changed K change s)
    pub long : n ≡ score_length K (changed K change s)

  pub change_made : KindLaws K → Legal K s → (change x : Change) {xs ys : List (Node Numbers)} {m n : ℕ} → change ≡ x → xs ≡ [] → ys ≡ xs ++ preorder (changed K x s) → m ≡ score_length K s
      → n ≡ changed_length x m → ChangeMade change ys n
  change_made laws legal change x is none put whole long =
      record {
        nodes_are = put ∙ ap (λ zs. zs ++ preorder (changed K x s)) none ∙ ap (λ y. preorder (changed K y s)) (sym is);
        long = long ∙ (λ i. changed_length (sym is i) (whole i)) ∙ sym (length_changed laws legal change);
      }
