-- Rows that are one score within the limits, by a test that does not look at the primitives' numbers.
use Rattle.std.proofs.Common.{◌≡◌, ℕ, ◌≤◌, true, ◌&&◌, eqb, leb, List, [], ◌∷◌, ◌++◌, map, length, sym, refl, ap, ◌∙◌, arith}
use Rattle.std.proofs.lemmas.List.{append_assoc, append-nil, length-map}
use Rattle.algebra.specs.declared.numbers.Numbers.{Numbers}
use Rattle.algebra.specs.declared.node.Node.{Node}
use Rattle.algebra.specs.declared.node.Node.TheVariants.{Rest, Primitive, Sequence, Parallel}
use Rattle.algebra.specs.Score.{Score, Score.rest, Score.primitive, Score.sequence, Score.parallel, nodes, primitives}
use Rattle.algebra.specs.Layout.{seen, view, preorder, joined, stack, foremost, score_of}
use Rattle.nodes.specs.Held.{bare, Held, blank, outline, held_row}
use Rattle.nodes.proofs.Parts.{length_preorder, stack_preorder}

-- what the test says
pub record Tested (xs : List (Node Numbers)) (n m : ℕ) : Type 0 where
  pub one : length (stack xs) ≡ 1
  pub long : length xs ≡ n
  pub full : nodes (score_of xs) ≡ n
  pub small : n ≤ 1023
  pub count : primitives (score_of xs) ≡ m
  pub few : m ≤ 170
  pub short : bare (score_of xs) ≤ 16777215

pub tested : (xs : List (Node Numbers)) (n m : ℕ) → held_row xs n m ≡ true → Tested xs n m
tested xs n m h = grind arith

pub test_from : (xs : List (Node Numbers)) (n m : ℕ) → Tested xs n m → held_row xs n m ≡ true
test_from xs n m o = grind arith

-- the nodes of scores, one after the other
abbrev rows : List Score → List (Node Numbers)
rows [] = []
rows (s ∷ ss) = preorder s ++ rows ss

-- a row of as many nodes as the scores in it have is just those scores
paired : (n : Node Numbers) (f : Score → Score → Score) (made : (a b : Score) → preorder (f a b) ≡ n ∷ (preorder a ++ preorder b)) (xs : List (Node Numbers)) (ss : List Score)
    → length (rows ss) ≤ length xs → (length (rows ss) ≡ length xs → xs ≡ rows ss)
    → (length (rows (joined f ss)) ≤ length (n ∷ xs)) × (length (rows (joined f ss)) ≡ length (n ∷ xs) → n ∷ xs ≡ rows (joined f ss))
paired n f made xs [] most full = (omega arith, λ e. absurd (omega arith))
paired n f made xs (a ∷ []) most full = (omega arith, λ e. absurd (omega arith))
paired n f made xs (a ∷ (b ∷ ss)) most full =
    let is : rows (f a b ∷ ss) ≡ n ∷ rows (a ∷ (b ∷ ss)) = ap (λ ys. ys ++ rows ss) (made a b) ∙ ap (λ ys. n ∷ ys) (append_assoc (preorder a) (preorder b) (rows ss)) in
    let l = ap length is in
    (omega (arith, l), λ e. ap (λ ys. n ∷ ys) (full (omega (arith, l))) ∙ sym is)

counted : (xs : List (Node Numbers)) → (length (rows (stack xs)) ≤ length xs) × (length (rows (stack xs)) ≡ length xs → xs ≡ rows (stack xs))
counted [] = (omega arith, λ _. refl)
counted (Rest d ∷ xs) = let (most, full) = counted xs in (omega (arith, most), λ e. ap (λ ys. Rest d ∷ ys) (full (omega (arith, e))))
counted (Primitive p ∷ xs) = let (most, full) = counted xs in (omega (arith, most), λ e. ap (λ ys. Primitive p ∷ ys) (full (omega (arith, e))))
counted (Sequence ∷ xs) = let (most, full) = counted xs in paired Sequence sequence (λ _ _. refl) xs (stack xs) most full
counted (Parallel ∷ xs) = let (most, full) = counted xs in paired Parallel parallel (λ _ _. refl) xs (stack xs) most full

lone : (ss : List Score) → length ss ≡ 1 → (t : Score) × (ss ≡ t ∷ [])
lone [] e = absurd (omega arith)
lone (t ∷ []) e = (t, refl)
lone (t ∷ (s ∷ ss)) e = absurd (omega arith)

pub held_from : (xs : List (Node Numbers)) (n m : ℕ) → Tested xs n m → Held xs
held_from xs n m o =
    let (t, is) = lone (stack xs) o.one in
    let s : score_of xs ≡ t = ap foremost is in
    let all : rows (stack xs) ≡ preorder t = ap rows is ∙ append-nil (preorder t) in
    let long : length (rows (stack xs)) ≡ length xs = ap length all ∙ length_preorder t ∙ sym (ap nodes s) ∙ o.full ∙ sym o.long in
    record {
      whole = (counted xs).1 long ∙ all ∙ ap preorder (sym s);
      small = omega (arith, o.small, o.long);
      few = omega (arith, o.few, o.count);
      short = o.short;
    }

-- a score's own nodes
pub score_preorder : (s : Score) → score_of (preorder s) ≡ s
score_preorder s = ap (λ xs. foremost (stack xs)) (sym (append-nil (preorder s))) ∙ ap foremost (stack_preorder s [])

-- nodes are those of one score
pub same_score : {s t : Score} → preorder s ≡ preorder t → s ≡ t
same_score {s = s} {t = t} e = sym (score_preorder s) ∙ ap score_of e ∙ score_preorder t

pub tested_score : (s : Score) → nodes s ≤ 1023 → primitives s ≤ 170 → bare s ≤ 16777215 → Tested (preorder s) (nodes s) (primitives s)
tested_score s small few short =
    let is = score_preorder s in
    record {
      one = ap (λ xs. length (stack xs)) (sym (append-nil (preorder s))) ∙ ap length (stack_preorder s []);
      long = length_preorder s;
      full = ap nodes is;
      small = small;
      count = ap primitives is;
      few = few;
      short = omega (arith, ap bare is);
    }

-- other numbers in the primitives
module _ (g : Numbers → Numbers) where
  abbrev renumbered : Score → Score
  renumbered (rest d) = rest d
  renumbered (primitive p) = primitive (g p)
  renumbered (sequence a b) = sequence (renumbered a) (renumbered b)
  renumbered (parallel a b) = parallel (renumbered a) (renumbered b)

  record Like (s : Score) : Type 0 where
    nodes_same : nodes (renumbered s) ≡ nodes s
    primitives_same : primitives (renumbered s) ≡ primitives s
    bare_same : bare (renumbered s) ≡ bare s

  like : (s : Score) → Like s
  like (rest d) = record { nodes_same = refl; primitives_same = refl; bare_same = refl }
  like (primitive p) = record { nodes_same = refl; primitives_same = refl; bare_same = refl }
  like (sequence a b) = let x = like a in let y = like b in record { nodes_same = omega arith; primitives_same = omega arith; bare_same = omega arith }
  like (parallel a b) = let x = like a in let y = like b in record { nodes_same = omega arith; primitives_same = omega arith; bare_same = omega arith }

  joined_sequence : (ss : List Score) → joined sequence (map renumbered ss) ≡ map renumbered (joined sequence ss)
  joined_sequence [] = refl
  joined_sequence (a ∷ []) = refl
  joined_sequence (a ∷ (b ∷ ss)) = refl

  joined_parallel : (ss : List Score) → joined parallel (map renumbered ss) ≡ map renumbered (joined parallel ss)
  joined_parallel [] = refl
  joined_parallel (a ∷ []) = refl
  joined_parallel (a ∷ (b ∷ ss)) = refl

  stack_renumbered : (xs : List (Node Numbers)) → stack (map (seen g) xs) ≡ map renumbered (stack xs)
  stack_renumbered [] = refl
  stack_renumbered (Rest d ∷ xs) = ap (λ ss. rest d ∷ ss) (stack_renumbered xs)
  stack_renumbered (Primitive p ∷ xs) = ap (λ ss. primitive (g p) ∷ ss) (stack_renumbered xs)
  stack_renumbered (Sequence ∷ xs) = ap (joined sequence) (stack_renumbered xs) ∙ joined_sequence (stack xs)
  stack_renumbered (Parallel ∷ xs) = ap (joined parallel) (stack_renumbered xs) ∙ joined_parallel (stack xs)

  first_renumbered : (ss : List Score) → foremost (map renumbered ss) ≡ renumbered (foremost ss)
  first_renumbered [] = refl
  first_renumbered (s ∷ ss) = refl

  pub test_renumbered : (xs : List (Node Numbers)) (n m : ℕ) → held_row (map (seen g) xs) n m ≡ held_row xs n m
  test_renumbered xs n m =
      let ys = map (seen g) xs in
      let is : score_of ys ≡ renumbered (score_of xs) = ap foremost (stack_renumbered xs) ∙ first_renumbered (stack xs) in
      let one : length (stack ys) ≡ length (stack xs) = ap length (stack_renumbered xs) ∙ length-map (stack xs) renumbered in
      let long : length ys ≡ length xs = length-map xs (seen g) in
      let l = like (score_of xs) in
      let a : nodes (score_of ys) ≡ nodes (score_of xs) = ap nodes is ∙ l.nodes_same in
      let b : primitives (score_of ys) ≡ primitives (score_of xs) = ap primitives is ∙ l.primitives_same in
      let c : bare (score_of ys) ≡ bare (score_of xs) = ap bare is ∙ l.bare_same in
      λ i. eqb (one i) 1 && (eqb (long i) n && (eqb (a i) n && (leb n 1023 && (eqb (b i) m && (leb m 170 && leb (c i) 16777215)))))

-- the outline of a row of a kind, from its view
pub outline_view : {P : Type 0} (f : P → Numbers) (row : List (Node P)) → outline row ≡ map (seen (λ _. blank)) (view f row)
outline_view f [] = refl
outline_view f (Rest d ∷ row) = ap (λ xs. Rest d ∷ xs) (outline_view f row)
outline_view f (Primitive x ∷ row) = ap (λ xs. Primitive blank ∷ xs) (outline_view f row)
outline_view f (Sequence ∷ row) = ap (λ xs. Sequence ∷ xs) (outline_view f row)
outline_view f (Parallel ∷ row) = ap (λ xs. Parallel ∷ xs) (outline_view f row)
