-- One step at a node of a score.
use Rattle.std.proofs.Common.{◌≡◌, ℕ, ◌+◌, ◌<◌, List, ◌++◌, length, take, drop, Some, None, sym, ap, ◌∙◌, arith}
use Rattle.std.proofs.lemmas.List.{length-append, length-map, take_at, drop_at, drop-drop}
use Rattle.algebra.specs.declared.numbers.Numbers.{Numbers}
use Rattle.algebra.specs.declared.node.Node.{Node}
use Rattle.algebra.specs.declared.rule.Rule.{Rule}
use Rattle.algebra.specs.declared.rule.Way.{Way}
use Rattle.algebra.specs.Kind.{KindModel}
use Rattle.algebra.specs.Score.{Score, nodes}
use Rattle.algebra.specs.Layout.{seen, view, preorder, stack, foremost, score_at}
use Rattle.algebra.specs.Rewrite.{mapped, other_side, rewritten}
use Rattle.algebra.specs.Theorems.{PartAt}
use Rattle.algebra.proofs.Rewrite.{rewrites_there}
use Rattle.nodes.proofs.Parts.{length_preorder, stack_preorder}

-- a row has as many nodes as its score
pub nodes_long : {P : Type 0} (f : P → Numbers) (row : List (Node P)) (s : Score) → view f row ≡ preorder s → length row ≡ nodes s
nodes_long f row s e = sym (length-map row (seen f)) ∙ ap length e ∙ length_preorder s

-- the part of a score at a node, in the score's nodes
module _ (s : Score) (node : ℕ) (p : PartAt node s) where
  lies : preorder s ≡ p.before ++ (preorder p.part ++ p.after)
  lies = ap preorder (sym p.own) ∙ p.lies p.part

  ahead : take node (preorder s) ≡ p.before
  ahead = ap (take node) lies ∙ take_at p.before (preorder p.part ++ p.after) node p.here

  from : drop node (preorder s) ≡ preorder p.part ++ p.after
  from = ap (drop node) lies ∙ drop_at p.before (preorder p.part ++ p.after) node p.here

  stands : score_at (preorder s) node ≡ p.part
  stands = ap (λ ys. foremost (stack ys)) from ∙ ap foremost (stack_preorder p.part p.after)

  past : drop (node + nodes p.part) (preorder s) ≡ p.after
  past = sym (drop-drop (nodes p.part) node (preorder s)) ∙ ap (drop (nodes p.part)) from ∙ drop_at (preorder p.part) p.after (nodes p.part) (length_preorder p.part)

-- a score with a new part in the place of another
pub record Replaced (s part new t : Score) (node : ℕ) : Type 0 where
  pub row : preorder t ≡ take node (preorder s) ++ (preorder new ++ drop (node + nodes part) (preorder s))
  pub size : nodes t + nodes part ≡ nodes s + nodes new

module _ (K : KindModel) (rule : Rule) (way : Way) (split : ℕ) (s part : Score) (node : ℕ) (inside : node < nodes s) (is : part ≡ score_at (preorder s) node) where
  abbrev there : (p : PartAt node s) × (rewritten K rule way split node s ≡ mapped p.put (other_side K rule way split p.part))
  there = rewrites_there K rule way split node s inside

  same : part ≡ there.0.part
  same = is ∙ stands s node there.0

  stepped : rewritten K rule way split node s ≡ mapped there.0.put (other_side K rule way split part)
  stepped = there.1 ∙ ap (λ t. mapped there.0.put (other_side K rule way split t)) (sym same)

  -- the rule does not fit the part
  pub step_none : None ≡ other_side K rule way split part → rewritten K rule way split node s ≡ None
  step_none e = stepped ∙ ap (mapped there.0.put) (sym e)

  -- the other side of the part is put in its place
  pub step_some : (new : Score) → Some new ≡ other_side K rule way split part → (t : Score) × (rewritten K rule way split node s ≡ Some t) × Replaced s part new t node
  step_some new e =
      let p = there.0 in
      let here = take node (preorder s) in
      let rest = drop (node + nodes part) (preorder s) in
      let row : preorder (p.put new) ≡ here ++ (preorder new ++ rest) =
      p.lies new ∙ ap (λ us. us ++ (preorder new ++ p.after)) (sym (ahead s node p))
      ∙ ap (λ us. here ++ (preorder new ++ us)) (sym (ap (λ t. drop (node + nodes t) (preorder s)) same ∙ past s node p)) in (
        p.put new,
        stepped ∙ ap (mapped p.put) (sym e),
        record {
          row = row;
          size = omega (
            arith,
            ap nodes same,
            length_preorder s,
            length_preorder p.part,
            length_preorder new,
            length_preorder (p.put new),
            ap length (lies s node p),
            length-append p.before (preorder p.part ++ p.after),
            length-append (preorder p.part) p.after,
            ap length (p.lies new),
            length-append p.before (preorder new ++ p.after),
            length-append (preorder new) p.after,
          );
        },
      )
