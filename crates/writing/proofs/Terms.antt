-- The scores that begin a row: a pair's parts stand behind its first node, one behind the other.
use Rattle.std.proofs.Common.{◌≡◌, ℕ, ◌+◌, ◌-◌, ◌≤◌, List, [], ◌∷◌, ◌++◌, get_or, length, take, drop, sym, refl, ap, ◌∙◌, subst, arith}
use Rattle.std.proofs.lemmas.List.{append_assoc, append-nil, length-append, length-map, length-take, length-drop, take_all, drop_at}
use Rattle.algebra.specs.declared.numbers.Numbers.{Numbers}
use Rattle.algebra.specs.declared.node.Node.{Node}
use Rattle.algebra.specs.declared.node.Node.TheVariants.{Rest, Primitive, Sequence, Parallel}
use Rattle.algebra.specs.Score.{Score, Score.sequence, Score.parallel, nodes}
use Rattle.algebra.specs.Layout.{preorder, seen, view, joined, stack, foremost, score_of}
use Rattle.grammar.specs.Files.{print, fields}
use Rattle.nodes.specs.Held.{Whole}
use Rattle.nodes.proofs.Parts.{length_preorder, stack_preorder, some_node}
use Rattle.writing.specs.Terms.{behind, Begun, Twice, paired}

-- a row that is the nodes of a score, and others behind them
module _ (s : Score) (rest xs : List (Node Numbers)) (is : xs ≡ preorder s ++ rest) where
  pub front_score : score_of xs ≡ s
  front_score = ap foremost (ap stack is ∙ stack_preorder s rest)

  pub front_behind : behind xs ≡ rest
  front_behind = ap (λ t. drop (nodes t) xs) front_score ∙ ap (drop (nodes s)) is ∙ drop_at (preorder s) rest (nodes s) (length_preorder s)

  pub front_begun : Begun xs
  front_begun = is ∙ (λ i. preorder (sym front_score i) ++ sym front_behind i)

pub whole_begun : (xs : List (Node Numbers)) → Whole xs → Begun xs
whole_begun xs whole = front_begun (score_of xs) [] xs (whole ∙ sym (append-nil (preorder (score_of xs))))

pub some_begun : (xs : List (Node Numbers)) → Begun xs → 1 ≤ length xs
some_begun xs begun =
    omega (arith, ap length begun, length-append (preorder (score_of xs)) (behind xs), length_preorder (score_of xs), some_node (score_of xs))

-- the first score of a row is a pair of the two that begin behind its first node, with a sign between them
pub record Opens (xs ys : List (Node Numbers)) (sign : ℕ) : Type 0 where
  pub twice : Twice ys
  pub printed : print (score_of xs) ≡ paired sign ys
  pub beyond : behind xs ≡ behind (behind ys)

abbrev tag : Node Numbers → ℕ
tag (Rest d) = 0
tag (Primitive p) = 1
tag Sequence = 1
tag Parallel = 1

module _ (n : Node Numbers) (pair : tag n ≡ 1) (f : Score → Score → Score) (row : (a b : Score) → preorder (f a b) ≡ n ∷ (preorder a ++ preorder b))
    (sign : ℕ) (text : (a b : Score) → print (f a b) ≡ 40 ∷ (print a ++ (sign ∷ (print b ++ (41 ∷ []))))) (ys : List (Node Numbers))
    (first : score_of (n ∷ ys) ≡ foremost (joined f (stack ys))) (begun : Begun (n ∷ ys)) where
  -- else the row would begin with a rest
  lone : (ss : List Score) → foremost (joined f (stack ys)) ≡ foremost ss → ss ≡ [] → ⊥
  lone ss e none =
      let rest = first ∙ e ∙ ap foremost none in
      let head = begun ∙ ap (λ s. preorder s ++ behind (n ∷ ys)) rest in
      let same : tag n ≡ 0 = ap (λ xs. tag (get_or xs 0 n)) head in
      absurd (omega (arith, pair, same))

  opens_at : (ss : List Score) → stack ys ≡ ss → Opens (n ∷ ys) ys sign
  opens_at [] e = absurd (lone [] (ap (λ t. foremost (joined f t)) e) refl)
  opens_at (a ∷ []) e = absurd (lone [] (ap (λ t. foremost (joined f t)) e) refl)
  opens_at (a ∷ (b ∷ ss)) e =
      let r = behind (n ∷ ys) in
      let is : score_of (n ∷ ys) ≡ f a b = first ∙ ap (λ t. foremost (joined f t)) e in
      let all : n ∷ ys ≡ n ∷ ((preorder a ++ preorder b) ++ r) = begun ∙ ap (λ s. preorder s ++ r) is ∙ ap (λ xs. xs ++ r) (row a b) in
      let left : ys ≡ preorder a ++ (preorder b ++ r) = ap (drop 1) all ∙ append_assoc (preorder a) (preorder b) r in
      let right : behind ys ≡ preorder b ++ r = front_behind a (preorder b ++ r) ys left in
      let sa : score_of ys ≡ a = front_score a (preorder b ++ r) ys left in
      let sb : score_of (behind ys) ≡ b = front_score b r (behind ys) right in
      record {
        twice = record { first = front_begun a (preorder b ++ r) ys left; second = front_begun b r (behind ys) right };
        printed = ap print is ∙ text a b ∙ (λ i. 40 ∷ (print (sym sa i) ++ (sign ∷ (print (sym sb i) ++ (41 ∷ [])))));
        beyond = sym (front_behind b r (behind ys) right);
      }

-- the first node of a row, and the others
cut : {P : Type 0} (f : P → Numbers) (row : List (Node P)) (d x : Node P) → 1 ≤ length row → get_or row 0 d ≡ x → view f row ≡ seen f x ∷ view f (take (length row - 1) (drop 1 row))
cut f [] d x some e = absurd (omega arith)
cut f (n ∷ row) d x some e =
    λ i. seen f (e i) ∷ view f (sym (take_all (length (n ∷ row) - 1) row (omega arith)) i)

module _ {P : Type 0} (f : P → Numbers) (row : List (Node P)) (begun : Begun (view f row)) where
  abbrev others : List (Node Numbers)
  others = view f (take (length row - 1) (drop 1 row))

  some : 1 ≤ length row
  some = omega (arith, some_begun (view f row) begun, length-map row (seen f))

  pub others_fewer : length (take (length row - 1) (drop 1 row)) + 1 ≡ length row
  others_fewer = omega (arith, some, length-take (length row - 1) (drop 1 row), length-drop 1 row)

  module _ (d : Node P) where
    pub opens_sequence : get_or row 0 d ≡ Sequence → Opens (view f row) others 43
    opens_sequence e =
        let is = cut f row d Sequence some e in
        subst (λ xs. Opens xs others 43) (sym is)
        (opens_at Sequence refl sequence (λ _ _. refl) 43 (λ _ _. refl) others refl (subst Begun is begun) (stack others) refl)

    pub opens_parallel : get_or row 0 d ≡ Parallel → Opens (view f row) others 124
    opens_parallel e =
        let is = cut f row d Parallel some e in
        subst (λ xs. Opens xs others 124) (sym is)
        (opens_at Parallel refl parallel (λ _ _. refl) 124 (λ _ _. refl) others refl (subst Begun is begun) (stack others) refl)

    pub primitive_text : (x : P) → get_or row 0 d ≡ Primitive x → print (score_of (view f row)) ≡ 112 ∷ fields (f x)
    primitive_text x e = ap (λ xs. print (score_of xs)) (cut f row d (Primitive x) some e)

    pub primitive_behind : (x : P) → get_or row 0 d ≡ Primitive x → behind (view f row) ≡ others
    primitive_behind x e = ap behind (cut f row d (Primitive x) some e)
