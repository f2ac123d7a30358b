-- What comes of one step at a node of a score.
use Rattle.std.proofs.Common.{◌≡◌, ℕ, ◌+◌, ◌-◌, ◌<◌, ◌≤◌, List, ◌++◌, length, take, drop, Some, None, Ok, Err, Option, sym, refl, ap, ◌∙◌, arith}
use Rattle.std.specs.Option.{option_map, ok_or}
use Rattle.std.proofs.lemmas.List.{append_assoc, length-drop, take_all, take-map, drop-map}
use Rattle.algebra.specs.declared.numbers.Numbers.{Numbers}
use Rattle.algebra.specs.declared.node.Node.{Node}
use Rattle.algebra.specs.declared.rule.Rule.{Rule}
use Rattle.algebra.specs.declared.rule.Way.{Way}
use Rattle.algebra.specs.Kind.{KindModel}
use Rattle.algebra.specs.Score.{Score, nodes}
use Rattle.algebra.specs.Layout.{seen, view, preorder, score_at}
use Rattle.algebra.specs.Rewrite.{other_side, rewritten}
use Rattle.nodes.specs.Lists.{Listed}
use Rattle.nodes.proofs.Lists.{put_both}
use Rattle.refusals.specs.declared.refusal.Refusal.{Refusal}
use Rattle.refusals.specs.declared.refusal.Refusal.TheVariants.{NoFit, TooMany}
use Rattle.refusals.specs.Checks.{Check, passed}
use Rattle.rewriting.specs.declared.plan.Plan.{Plan}
use Rattle.rewriting.specs.Plans.{plan_score}
use Rattle.rewriting.specs.Rewritings.{Rewrote}
use Rattle.rewriting.proofs.Steps.{Replaced, step_none, step_some}

-- the first nodes of a row, and those from one on
module _ {P : Type 0} (f : P → Numbers) (row : List (Node P)) (s : Score) (is : view f row ≡ preorder s) where
  pub front : (n : ℕ) → view f (take n row) ≡ take n (preorder s)
  front n = sym (take-map (seen f) n row) ∙ ap (take n) is

  pub back : (n : ℕ) → view f (take (length row - n) (drop n row)) ≡ drop n (preorder s)
  back n = ap (view f) (take_all (length row - n) (drop n row) (omega (arith, length-drop n row))) ∙ sym (drop-map (seen f) n row) ∙ ap (drop n) is

-- a plan, or none, as it is told with a refusal
module _ {A E : Type 0} where
  told_none : (o : Option A) (d e : E) → Err e ≡ ok_or o d → (o ≡ None) × (e ≡ d)
  told_none None d e was = (refl, cc)
  told_none (Some x) d e was = absurd cc

  told_some : (o : Option A) (d : E) (x : A) → Ok x ≡ ok_or o d → o ≡ Some x
  told_some None d x was = absurd cc
  told_some (Some y) d x was = cc

module _ (K : KindModel) (rule : Rule) (way : Way) (split : ℕ) (s part : Score) (node : ℕ) (inside : node < nodes s) (is : part ≡ score_at (preorder s) node) {P : Type 0} (o : Option (Plan P))
    (planned : option_map plan_score o ≡ other_side K rule way split part) (xs : Listed) where
  -- the rule does not fit
  pub no_fit : (e : Refusal) → Err e ≡ ok_or o (NoFit node) → (r : Check) → r ≡ Err e → Rewrote node (rewritten K rule way split node s) xs xs r
  no_fit e was r told =
      let (none, refusal) = told_none o (NoFit node) e was in
      rw (step_none K rule way split s part node inside is (sym (ap (option_map plan_score) none) ∙ planned)) (told ∙ ap Err refusal, refl)

  module _ (plan : Plan P) (was : Ok plan ≡ ok_or o (NoFit node)) (n : ℕ) (total : n + nodes part ≡ nodes s + nodes (plan_score plan)) where
    abbrev made : (t : Score) × (rewritten K rule way split node s ≡ Some t) × Replaced s part (plan_score plan) t node
    made = step_some K rule way split s part node inside is (plan_score plan) (sym (ap (option_map plan_score) (told_some o (NoFit node) plan was)) ∙ planned)

    size : nodes made.0 ≡ n
    size = let r = made.2 in omega (arith, r.size)

    -- the list has no room for the result
    pub too_many : xs.room < length xs.items + n → Rewrote node (rewritten K rule way split node s) xs xs (Err (TooMany n))
    too_many over = rw made.1 (record { over = omega (arith, size); refusal = ap TooMany (sym size); same = refl })

    -- the result is put behind others
    pub put : length xs.items + n ≤ xs.room → (ys zs ws : Listed) → ys.items ≡ xs.items ++ take node (preorder s) → zs.items ≡ ys.items ++ preorder (plan_score plan)
        → ws.items ≡ zs.items ++ drop (node + nodes part) (preorder s) → ws.room ≡ xs.room → Rewrote node (rewritten K rule way split node s) xs ws passed
    put room ys zs ws first second third kept =
        let before = take node (preorder s) in
        let middle = preorder (plan_score plan) in
        let after = drop (node + nodes part) (preorder s) in
        rw made.1 (record {
          room = omega (arith, size);
          row = put_both xs.items (before ++ middle) after (put_both xs.items before middle first second) third ∙ ap (λ us. xs.items ++ us) (append_assoc before middle after ∙ sym made.2.row);
          kept = kept;
        })
