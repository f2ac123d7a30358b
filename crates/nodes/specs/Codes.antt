-- Scores stored as the rows of their nodes, which are stored as numbers.
use Rattle.std.proofs.Common.{◌≡◌, ℕ, zero, suc, List, [], ◌∷◌, ◌++◌, refl, ap, sym, ◌∙◌}
use Rattle.std.proofs.lemmas.List.{append_assoc, append-nil}
use Rattle.std.specs.Coded.{Coded, code_by, coded_list, coded_ℕ, coded×}
use Rattle.algebra.specs.declared.numbers.Numbers.{Numbers}
use Rattle.algebra.specs.declared.node.Node.{Node}
use Rattle.algebra.specs.declared.node.Node.TheVariants.{Rest, Primitive, Sequence, Parallel}
use Rattle.algebra.specs.Kind.{four}
use Rattle.algebra.specs.Score.{Score, Score.rest, Score.primitive, Score.sequence, Score.parallel}
use Rattle.algebra.specs.Layout.{preorder, joined, stack, foremost, score_of}

abbrev pub tuple : Node Numbers → ℕ × (ℕ × (ℕ × (ℕ × ℕ)))
tuple (Rest d) = (0, (d, (0, (0, 0))))
tuple (Primitive p) = (1, (p.first, (p.second, (p.third, p.fourth))))
tuple Sequence = (2, (0, (0, (0, 0))))
tuple Parallel = (3, (0, (0, (0, 0))))

abbrev pub untuple : ℕ × (ℕ × (ℕ × (ℕ × ℕ))) → Node Numbers
untuple (zero, (d, _)) = Rest d
untuple (suc zero, (a, (b, (c, d)))) = Primitive (four a b c d)
untuple (suc (suc zero), _) = Sequence
untuple (suc (suc (suc _)), _) = Parallel

pub untuple_tuple : (x : Node Numbers) → untuple (tuple x) ≡ x
untuple_tuple (Rest d) = refl
untuple_tuple (Primitive p) = refl
untuple_tuple Sequence = refl
untuple_tuple Parallel = refl

abbrev pub node_code : Coded (Node Numbers)
node_code = code_by (ℕ × (ℕ × (ℕ × (ℕ × ℕ)))) (coded× coded_ℕ (coded× coded_ℕ (coded× coded_ℕ (coded× coded_ℕ coded_ℕ)))) tuple untuple untuple_tuple

stack_preorder : (s : Score) (ys : List (Node Numbers)) → stack (preorder s ++ ys) ≡ s ∷ stack ys
stack_preorder (rest d) ys = refl
stack_preorder (primitive p) ys = refl
stack_preorder (sequence a b) ys =
    ap (joined sequence) (ap stack (append_assoc (preorder a) (preorder b) ys) ∙ stack_preorder a (preorder b ++ ys) ∙ ap (λ ss. a ∷ ss) (stack_preorder b ys))
stack_preorder (parallel a b) ys =
    ap (joined parallel) (ap stack (append_assoc (preorder a) (preorder b) ys) ∙ stack_preorder a (preorder b ++ ys) ∙ ap (λ ss. a ∷ ss) (stack_preorder b ys))

pub score_preorder : (s : Score) → score_of (preorder s) ≡ s
score_preorder s = ap (λ xs. foremost (stack xs)) (sym (append-nil (preorder s))) ∙ ap foremost (stack_preorder s [])

abbrev pub score_code : Coded Score
score_code = code_by (List (Node Numbers)) (coded_list node_code) preorder score_of score_preorder
