-- What is known of a normal form whose nodes stand behind those of a list.
use Rattle.std.proofs.Common.{◌≡◌, ℕ, ◌-◌, ◌*◌, ◌<◌, ◌≤◌, List, ◌++◌, length, take, drop, sym, ap, ◌∙◌, subst, mul-le-mul_right, arith}
use Rattle.std.proofs.lemmas.List.{length-append, length-map, take-map, drop-map, take_all, drop_at}
use Rattle.algebra.specs.declared.numbers.Numbers.{Numbers}
use Rattle.algebra.specs.declared.node.Node.{Node}
use Rattle.algebra.specs.Kind.{KindModel, KindLaws}
use Rattle.algebra.specs.Score.{Score, nodes, primitives, score_length}
use Rattle.algebra.specs.Layout.{seen, view, preorder, score_of}
use Rattle.algebra.specs.Normal.{normal_after}
use Rattle.algebra.proofs.Complete.{sound_and_complete, after_reached}
use Rattle.algebra.proofs.Legal.{chain_legal}
use Rattle.algebra.proofs.Sizes.{normal_size, normal_fits}
use Rattle.grammar.specs.Loads.{file_bytes}
use Rattle.nodes.specs.Held.{Whole}
use Rattle.nodes.specs.Standing.{Limited, Stands}
use Rattle.nodes.proofs.Shapes.{score_preorder}
use Rattle.writing.proofs.Sizes.{length_bytes}
use Rattle.normal_file.specs.Bytes.{normal_bytes}

module _ (K : KindModel) (s model : Score) where
  abbrev form : Score
  form = normal_after K s model

  pub form_length : score_length K form ≡ score_length K s
  form_length = sym ((sound_and_complete K s form).0 (after_reached K s model)).0

  pub form_primitives : primitives form ≡ primitives s
  form_primitives = (normal_size K s model).0

  module _ (limited : Limited K s) where
    pub form_nodes : nodes form ≤ 1023
    form_nodes = omega (arith, ((normal_fits K s model).0 limited.few).1)

    form_limited : Limited K form
    form_limited = record {
      legal = chain_legal K s form limited.legal (after_reached K s model);
      small = form_nodes;
      few = omega (arith, form_primitives, limited.few);
      short = omega (arith, form_length, limited.short);
    }

    form_bytes : KindLaws K → length (normal_bytes K s model) ≤ 16384
    form_bytes laws = length_bytes K laws form form_limited.legal form_limited.small form_limited.few (omega (arith, form_limited.short))

  -- it is a row that has just its nodes
  module _ {P : Type 0} (f : P → Numbers) (row : List (Node P)) (is : view f row ≡ preorder form) where
    pub row_score : score_of (view f row) ≡ form
    row_score = ap score_of is ∙ score_preorder form

    pub row_whole : Whole (view f row)
    row_whole = is ∙ ap preorder (sym row_score)

    pub row_small : KindLaws K → Limited K s → length (file_bytes K (score_of (view f row))) ≤ 16384
    row_small laws limited = subst (λ t. length (file_bytes K t) ≤ 16384) (sym row_score) (form_bytes limited laws)

  -- such a row stands
  module _ (limited : Limited K s) {P : Type 0} (f : P → Numbers) (row : List (Node P)) (is : view f row ≡ preorder form) where
    pub row_stands : Stands K f row
    row_stands = record { whole = row_whole f row is; limited = subst (Limited K) (sym (row_score f row is)) (form_limited limited) }

-- what stands in a row behind so many nodes
pub row_behind : {P : Type 0} (f : P → Numbers) (row : List (Node P)) (xs ys : List (Node Numbers)) (n : ℕ) → view f row ≡ xs ++ ys → n ≡ length xs → view f (take (length row - n) (drop n row)) ≡ ys
row_behind f row xs ys n is e =
    let m = length row - n in
    let long : length ys ≤ m = omega (arith, ap length is, length-append xs ys, length-map row (seen f)) in
    sym (take-map (seen f) m (drop n row)) ∙ ap (take m) (sym (drop-map (seen f) n row) ∙ ap (drop n) is ∙ drop_at xs ys n (sym e)) ∙ take_all m ys long

-- room for a score is no larger than a row of as many nodes
pub fewer_bytes : (n s bound : ℕ) → 1023 ≤ n → n * s < bound → 1023 * s < bound
fewer_bytes n s bound h l = omega (arith, mul-le-mul_right s h)
