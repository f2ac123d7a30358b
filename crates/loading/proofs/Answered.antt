-- What a file gives, from what was found of its head and its first items, one check after the other.
use Rattle.std.proofs.Common.{◌≡◌, ℕ, ◌<◌, ◌≤◌, eqb, leb, List, length, None, Ok, Err, Result, sym, ap, ◌∙◌, arith}
use Rattle.std.proofs.lemmas.List.{length-take, take_all}
use Rattle.std.proofs.lemmas.Bool.{cond-true, cond-false, le-leb, lt-leb, eq-eqb, ne_eqb}
use Rattle.algebra.specs.Kind.{KindModel}
use Rattle.algebra.specs.Score.{Score, nodes, primitives, score_length}
use Rattle.algebra.specs.Layout.{preorder, score_of}
use Rattle.refusals.specs.declared.refusal.Refusal.{Refusal}
use Rattle.refusals.specs.declared.refusal.Refusal.TheVariants.{TooManyInFile, IllegalNumbers, TooLongInFile, UntrueHead}
use Rattle.grammar.specs.declared.head.Head.{Head}
use Rattle.grammar.specs.declared.item.Item.{Item}
use Rattle.grammar.specs.Files.{File, ticks_offset, count_offset, body_offset}
use Rattle.grammar.specs.Items.{items, nodes_of}
use Rattle.grammar.specs.Described.{Describes}
use Rattle.grammar.specs.Loads.{excess, illegal, refused_at, provided, checked}
use Rattle.nodes.specs.Held.{Whole}
use Rattle.nodes.specs.Spans.{capped}
use Rattle.nodes.proofs.Parts.{length_preorder, some_node}
use Rattle.loading.specs.Offsets.{RefusedAt}
use Rattle.loading.specs.Counts.{primitive_items, Counted}
use Rattle.loading.specs.Checks.{Accepted}
use Rattle.loading.proofs.Steps.{no_item, item_at}
use Rattle.loading.proofs.Rows.{length_nodes}
use Rattle.loading.proofs.Terms.{nodes_items, primitives_items, first_offset, excess_front, score_is, whole_from}

-- the checks, from the last to the second
abbrev count_check : File → Result Score Refusal
count_check f = provided (eqb f.count (primitives f.body)) (UntrueHead (count_offset f)) (Ok f.body)

abbrev ticks_check : KindModel → File → Result Score Refusal
ticks_check K f = provided (eqb f.ticks (score_length K f.body)) (UntrueHead (ticks_offset f)) (count_check f)

abbrev length_check : KindModel → File → Result Score Refusal
length_check K f = provided (leb (score_length K f.body) 16777215) (TooLongInFile (body_offset f)) (ticks_check K f)

abbrev kind_check : KindModel → File → Result Score Refusal
kind_check K f = refused_at (illegal K (items (body_offset f) f.body)) IllegalNumbers (length_check K f)

module _ (K : KindModel) (f : File) (head : Head) (is : List Item) (describes : Describes f head is) where
  same_excess : excess 1023 170 (items (body_offset f) f.body) ≡ excess 1023 170 is
  same_excess = sym (excess_front 1023 170 (items (body_offset f) f.body)) ∙ ap (excess 1023 170) (sym describes.drafted)

  pub too_many : (e : Refusal) → RefusedAt (excess 1023 170 is) TooManyInFile e → checked K f ≡ Err e
  too_many e (offset, found, is-it) = ap (λ o. refused_at o TooManyInFile (kind_check K f)) (same_excess ∙ found) ∙ sym (ap Err is-it)

  module _ (count : ℕ) (counted : Counted is count) where
    pub all : is ≡ items (body_offset f) f.body
    all =
        let every = items (body_offset f) f.body in
        describes.drafted ∙ take_all 1024 every (omega (arith, length-take 1024 every, ap length describes.drafted, counted.small))

    pub laid : nodes_of is ≡ preorder f.body
    laid = ap nodes_of all ∙ nodes_items (body_offset f) f.body

    pub whole : Whole (nodes_of is)
    whole = whole_from (nodes_of is) f.body laid

    pub count_is : count ≡ primitives f.body
    count_is = counted.counts ∙ ap primitive_items all ∙ primitives_items (body_offset f) f.body

    pub long_is : length is ≡ nodes f.body
    long_is = sym (length_nodes is) ∙ ap length laid ∙ length_preorder f.body

    pub some_item : 0 < length is
    some_item = omega (arith, long_is, some_node f.body)

    few : checked K f ≡ kind_check K f
    few = ap (λ o. refused_at o TooManyInFile (kind_check K f)) (same_excess ∙ counted.room)

    pub illegal_one : (e : Refusal) → RefusedAt (illegal K is) IllegalNumbers e → checked K f ≡ Err e
    illegal_one e (offset, found, is-it) =
        few ∙ ap (λ o. refused_at o IllegalNumbers (length_check K f)) (ap (illegal K) (sym all) ∙ found) ∙ sym (ap Err is-it)

    module _ (legal : illegal K is ≡ None) (measured : ℕ) (measures : measured ≡ capped (score_length K (score_of (nodes_of is)))) where
      all_legal : checked K f ≡ length_check K f
      all_legal = few ∙ ap (λ o. refused_at o IllegalNumbers (length_check K f)) (ap (illegal K) (sym all) ∙ legal)

      measures_body : measured ≡ capped (score_length K f.body)
      measures_body = measures ∙ ap (λ s. capped (score_length K s)) (score_is (nodes_of is) f.body laid)

      pub too_long : 16777215 < measured → checked K f ≡ Err (TooLongInFile (item_at is 0).offset)
      too_long h =
          all_legal ∙ cond-false _ _ _ (lt-leb (score_length K f.body) 16777215 (omega (arith, measures_body)))
          ∙ ap (λ at. Err (TooLongInFile at)) (sym (ap (λ js. (item_at js 0).offset) all ∙ first_offset (body_offset f) f.body no_item))

      module _ (short : measured ≤ 16777215) where
        exact : measured ≡ score_length K f.body
        exact = omega (arith, measures_body)

        not_too_long : checked K f ≡ ticks_check K f
        not_too_long = all_legal ∙ cond-true _ _ _ (le-leb (score_length K f.body) 16777215 (omega (arith, exact)))

        pub untrue_ticks : (head.ticks.value ≡ measured → ⊥) → checked K f ≡ Err (UntrueHead head.ticks.offset)
        untrue_ticks ne =
            not_too_long ∙ cond-false _ _ _ (ne_eqb _ _ (λ e. ne (describes.ticks ∙ e ∙ sym exact)))
            ∙ ap (λ at. Err (UntrueHead at)) (sym describes.ticks_at)

        module _ (true-ticks : head.ticks.value ≡ measured) where
          ticks_true : checked K f ≡ count_check f
          ticks_true = not_too_long ∙ cond-true _ _ _ (eq-eqb _ _ (sym describes.ticks ∙ true-ticks ∙ exact))

          pub untrue_count : (head.count.value ≡ count → ⊥) → checked K f ≡ Err (UntrueHead head.count.offset)
          untrue_count ne =
              ticks_true ∙ cond-false _ _ _ (ne_eqb _ _ (λ e. ne (describes.count ∙ e ∙ sym count_is)))
              ∙ ap (λ at. Err (UntrueHead at)) (sym describes.count_at)

          pub accepted : head.count.value ≡ count → Accepted K f is (record { nodes = length is; primitives = count })
          accepted same = record {
            answer = ticks_true ∙ cond-true _ _ _ (eq-eqb _ _ (sym describes.count ∙ same ∙ count_is));
            nodes_are = long_is;
            primitives_are = count_is;
            laid = laid;
            legal = legal;
          }
