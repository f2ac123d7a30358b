-- Items that the kind takes, as a row of nodes.
use Rattle.std.proofs.Common.{◌≡◌, ℕ, zero, suc, ◌+◌, ◌<◌, ◌≤◌, Bool, true, false, cond, List, [], ◌∷◌, ◌++◌, length, take, set, Some, None, Option, sym, refl, ap, ◌∙◌, arith}
use Rattle.std.proofs.lemmas.List.{length-map, length-take-le, get_or-map, map_more}
use Rattle.algebra.specs.declared.numbers.Numbers.{Numbers}
use Rattle.algebra.specs.declared.node.Node.{Node}
use Rattle.algebra.specs.Kind.{KindModel}
use Rattle.algebra.specs.Layout.{seen, view, score_at}
use Rattle.grammar.specs.declared.item.Item.{Item}
use Rattle.grammar.specs.Items.{nodes_of}
use Rattle.grammar.specs.Loads.{legal_node, illegal}
use Rattle.nodes.specs.Held.{Whole}
use Rattle.nodes.specs.Rows.{overlaid, Wrote}
use Rattle.nodes.proofs.Readings.{top, top_there}
use Rattle.nodes.proofs.Writings.{wrote_put, wrote_then}
use Rattle.loading.proofs.Steps.{no_item, item_at}

taken : (b : Bool) (found : Option ℕ) (offset : ℕ) → cond b found (Some offset) ≡ None → (b ≡ true) × (found ≡ None)
taken true found offset e = (refl, e)
taken false found offset e = absurd (grind arith)

-- the kind takes each item
pub legal_at : (K : KindModel) (is : List Item) → illegal K is ≡ None → (at : ℕ) → at < length is → legal_node K (item_at is at).node ≡ true
legal_at K [] e at h = absurd (omega arith)
legal_at K (i ∷ is) e zero h = (taken _ _ _ e).0
legal_at K (i ∷ is) e (suc at) h = legal_at K is (taken (legal_node K i.node) _ _ e).1 at (omega arith)

pub length_nodes : (is : List Item) → length (nodes_of is) ≡ length is
length_nodes is = length-map is (λ (i : Item). i.node)

module _ (is : List Item) (at : ℕ) (h : at < length is) where
  -- what stands at a node of the row
  pub shown : Whole (nodes_of is) → top (score_at (nodes_of is) at) ≡ (item_at is at).node
  shown whole =
      sym (top_there (nodes_of is) whole at (omega (arith, length_nodes is)) no_item.node)
      ∙ get_or-map (λ (i : Item). i.node) is at no_item no_item.node h

  -- one more item written
  module _ {P : Type 0} (f : P → Numbers) (row rest : List (Node P)) (to : ℕ) (room : to + length is ≤ length row) (same : length rest ≡ length row) where
    pub placed_more : view f rest ≡ overlaid (view f row) to (nodes_of (take at is)) → (n : Node P) → seen f n ≡ (item_at is at).node
        → view f (set rest (to + at) n) ≡ overlaid (view f row) to (nodes_of (take (at + 1) is))
    placed_more e n shows =
        let front = nodes_of (take at is) in
        let long : length front ≡ at = length_nodes (take at is) ∙ length-take-le at is (omega arith) in
        let before : Wrote (view f row) (view f rest) to (to + at) front = record { row = e; ends = omega arith } in
        (wrote_then (view f row) (view f rest) _ front (seen f n ∷ []) to (to + at) _ (omega (arith, length-map row (seen f))) before (wrote_put f rest (to + at) n (omega arith))).row
        ∙ ap (λ zs. overlaid (view f row) to zs) (ap (λ x. front ++ (x ∷ [])) shows ∙ sym (map_more (λ (i : Item). i.node) is at no_item h))
