-- One more span in the table of a term's items, from right to left.
use Rattle.std.proofs.Common.{◌≡◌, ℕ, ◌+◌, ◌<◌, ◌≤◌, List, [], ◌∷◌, length, take, set, sym, refl, ap, ◌∙◌, arith}
use Rattle.std.specs.List.{push}
use Rattle.std.proofs.lemmas.Grind.{common_steps}
use Rattle.std.proofs.lemmas.List.{take_at, take-take}
use Rattle.algebra.specs.declared.numbers.Numbers.{Numbers}
use Rattle.algebra.specs.declared.node.Node.{Node}
use Rattle.algebra.specs.Kind.{KindModel}
use Rattle.algebra.specs.Layout.{score_at}
use Rattle.grammar.specs.declared.item.Item.{Item}
use Rattle.grammar.specs.Items.{nodes_of}
use Rattle.nodes.specs.declared.span.Span.{Span}
use Rattle.nodes.specs.Held.{Whole}
use Rattle.nodes.specs.Spans.{Spanned, Inside, next_span}
use Rattle.nodes.proofs.Readings.{top}
use Rattle.nodes.proofs.Tables.{inside_at, span_at, spanned_more}
use Rattle.loading.proofs.Steps.{item_at}
use Rattle.loading.proofs.Rows.{length_nodes, shown}

-- the last of the items that are left, and those before it
pub record LastLeft (is left before : List Item) (i : Item) (at : ℕ) : Type 0 where
  pub inside : at < length is
  pub here : i ≡ item_at is at
  pub long : length left ≡ at + 1
  pub fewer : at ≡ length before
  pub front : before ≡ take (length before) is

pub last_left : (is left before : List Item) (i : Item) (at count : ℕ) → count ≡ 0 → left ≡ take (length left) is → left ≡ push before i → at ≡ count + length before → LastLeft is left before i at
last_left is left before i at count none whole ends stands =
    let n = length before in
    let long : length left ≡ n + 1 = grind (arith, common_steps) in
    record {
      inside = grind (arith, common_steps);
      here = grind (arith, common_steps);
      long = grind (arith, common_steps);
      fewer = omega arith;
      front = sym (take_at before (i ∷ []) n refl) ∙ ap (take n) (sym ends ∙ whole) ∙ take-take n (length left) is (omega (arith, long));
    }

module _ (K : KindModel) (is : List Item) (whole : Whole (nodes_of is)) (small : length is ≤ 1023) (spans : List Span) (room : length is ≤ length spans)
    (at : ℕ) (inside : at < length is) (behind : Spanned K (nodes_of is) spans (at + 1)) (n : Node Numbers) (here : n ≡ (item_at is at).node) where
  few : length (nodes_of is) ≤ 1023
  few = omega (arith, length_nodes is)

  fits : length (nodes_of is) ≤ length spans
  fits = omega (arith, length_nodes is)

  there : at < length (nodes_of is)
  there = omega (arith, length_nodes is)

  tops : top (score_at (nodes_of is) at) ≡ n
  tops = shown is at inside whole ∙ sym here

  pub parts_inside : Inside spans at n
  parts_inside = inside_at K (nodes_of is) whole few spans fits at behind there n tops

  pub one_more : (s : Span) → s ≡ next_span K spans at n → Spanned K (nodes_of is) (set spans at s) at
  one_more s e = spanned_more K (nodes_of is) whole few spans fits at behind s there (e ∙ span_at K (nodes_of is) whole few spans fits at behind there n tops)
