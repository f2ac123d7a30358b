-- The parts of a score, and where their nodes stand in its row.
use Rattle.std.proofs.Common.{◌≡◌, ℕ, ◌+◌, ◌-◌, ◌<◌, ◌≤◌, List, [], ◌∷◌, ◌++◌, length, take, drop, sym, refl, ap, ◌∙◌, ⊎_elim, arith}
use Rattle.std.proofs.lemmas.List.{append_assoc, append-nil, length-append, take_at, drop_at, drop-drop}
use Rattle.std.proofs.lemmas.Bool.{cases_lt, cases_eq}
use Rattle.algebra.specs.declared.numbers.Numbers.{Numbers}
use Rattle.algebra.specs.Score.{Score, Score.rest, Score.primitive, Score.sequence, Score.parallel, nodes, primitives}
use Rattle.algebra.specs.declared.node.Node.{Node}
use Rattle.algebra.specs.declared.node.Node.TheVariants.{Sequence, Parallel}
use Rattle.algebra.specs.Layout.{preorder, joined, stack, foremost, score_at}
use Rattle.nodes.specs.Held.{bare}

pub some_node : (s : Score) → 1 ≤ nodes s
some_node (rest d) = omega arith
some_node (primitive p) = omega arith
some_node (sequence a b) = omega arith
some_node (parallel a b) = omega arith

pub length_preorder : (s : Score) → length (preorder s) ≡ nodes s
length_preorder (rest d) = refl
length_preorder (primitive p) = refl
length_preorder (sequence a b) = omega (arith, length-append (preorder a) (preorder b), length_preorder a, length_preorder b)
length_preorder (parallel a b) = omega (arith, length-append (preorder a) (preorder b), length_preorder a, length_preorder b)

pub stack_preorder : (s : Score) (ys : List (Node Numbers)) → stack (preorder s ++ ys) ≡ s ∷ stack ys
stack_preorder (rest d) ys = refl
stack_preorder (primitive p) ys = refl
stack_preorder (sequence a b) ys =
    ap (joined sequence) (ap stack (append_assoc (preorder a) (preorder b) ys) ∙ stack_preorder a (preorder b ++ ys) ∙ ap (λ ss. a ∷ ss) (stack_preorder b ys))
stack_preorder (parallel a b) ys =
    ap (joined parallel) (ap stack (append_assoc (preorder a) (preorder b) ys) ∙ stack_preorder a (preorder b ++ ys) ∙ ap (λ ss. a ∷ ss) (stack_preorder b ys))

-- t is a part of s
pub data Within : Score → Score → Type 0 where
  here : {s : Score} → Within s s
  sequence_left : {a b t : Score} → Within a t → Within (sequence a b) t
  sequence_right : {a b t : Score} → Within b t → Within (sequence a b) t
  parallel_left : {a b t : Score} → Within a t → Within (parallel a b) t
  parallel_right : {a b t : Score} → Within b t → Within (parallel a b) t

-- which node it is
abbrev pub place : {s t : Score} → Within s t → ℕ
place here = 0
place (sequence_left p) = 1 + place p
place (sequence_right {a = a} p) = 1 + nodes a + place p
place (parallel_left p) = 1 + place p
place (parallel_right {a = a} p) = 1 + nodes a + place p

-- the nodes in front of it and behind it
abbrev pub before : {s t : Score} → Within s t → List (Node Numbers)
before here = []
before (sequence_left p) = Sequence ∷ before p
before (sequence_right {a = a} p) = Sequence ∷ (preorder a ++ before p)
before (parallel_left p) = Parallel ∷ before p
before (parallel_right {a = a} p) = Parallel ∷ (preorder a ++ before p)

abbrev pub behind : {s t : Score} → Within s t → List (Node Numbers)
behind here = []
behind (sequence_left {b = b} p) = behind p ++ preorder b
behind (sequence_right p) = behind p
behind (parallel_left {b = b} p) = behind p ++ preorder b
behind (parallel_right p) = behind p

-- the score with another in its place
abbrev pub plug : {s t : Score} → Within s t → Score → Score
plug here u = u
plug (sequence_left {b = b} p) u = sequence (plug p u) b
plug (sequence_right {a = a} p) u = sequence a (plug p u)
plug (parallel_left {b = b} p) u = parallel (plug p u) b
plug (parallel_right {a = a} p) u = parallel a (plug p u)

pub plug_self : {s t : Score} (p : Within s t) → plug p t ≡ s
plug_self here = refl
plug_self (sequence_left {b = b} p) = ap (λ x. sequence x b) (plug_self p)
plug_self (sequence_right {a = a} p) = ap (sequence a) (plug_self p)
plug_self (parallel_left {b = b} p) = ap (λ x. parallel x b) (plug_self p)
plug_self (parallel_right {a = a} p) = ap (parallel a) (plug_self p)

pub plug_row : {s t : Score} (p : Within s t) (u : Score) → preorder (plug p u) ≡ before p ++ (preorder u ++ behind p)
plug_row here u = sym (append-nil (preorder u))
plug_row (sequence_left {b = b} p) u =
    ap (λ xs. Sequence ∷ (xs ++ preorder b)) (plug_row p u) ∙ ap (λ xs. Sequence ∷ xs) (append_assoc (before p) (preorder u ++ behind p) (preorder b) ∙ ap (λ xs. before p ++ xs) (append_assoc (preorder u) (behind p) (preorder b)))
plug_row (sequence_right {a = a} p) u =
    ap (λ xs. Sequence ∷ (preorder a ++ xs)) (plug_row p u) ∙ ap (λ xs. Sequence ∷ xs) (sym (append_assoc (preorder a) (before p) (preorder u ++ behind p)))
plug_row (parallel_left {b = b} p) u =
    ap (λ xs. Parallel ∷ (xs ++ preorder b)) (plug_row p u) ∙ ap (λ xs. Parallel ∷ xs) (append_assoc (before p) (preorder u ++ behind p) (preorder b) ∙ ap (λ xs. before p ++ xs) (append_assoc (preorder u) (behind p) (preorder b)))
plug_row (parallel_right {a = a} p) u =
    ap (λ xs. Parallel ∷ (preorder a ++ xs)) (plug_row p u) ∙ ap (λ xs. Parallel ∷ xs) (sym (append_assoc (preorder a) (before p) (preorder u ++ behind p)))

pub row : {s t : Score} (p : Within s t) → preorder s ≡ before p ++ (preorder t ++ behind p)
row {t = t} p = ap preorder (sym (plug_self p)) ∙ plug_row p t

pub length_before : {s t : Score} (p : Within s t) → length (before p) ≡ place p
length_before here = refl
length_before (sequence_left p) = omega (arith, length_before p)
length_before (sequence_right {a = a} p) = omega (arith, length_before p, length-append (preorder a) (before p), length_preorder a)
length_before (parallel_left p) = omega (arith, length_before p)
length_before (parallel_right {a = a} p) = omega (arith, length_before p, length-append (preorder a) (before p), length_preorder a)

pub place_end : {s t : Score} (p : Within s t) → place p + nodes t ≤ nodes s
place_end here = omega arith
place_end (sequence_left p) = omega (arith, place_end p)
place_end (sequence_right p) = omega (arith, place_end p)
place_end (parallel_left p) = omega (arith, place_end p)
place_end (parallel_right p) = omega (arith, place_end p)

-- a part of a part
pub inner : {s t u : Score} (p : Within s t) (q : Within t u) → (r : Within s u) × (place r ≡ place p + place q)
inner here q = (q, omega arith)
inner (sequence_left p) q = let (r, e) = inner p q in (sequence_left r, omega (arith, e))
inner (sequence_right p) q = let (r, e) = inner p q in (sequence_right r, omega (arith, e))
inner (parallel_left p) q = let (r, e) = inner p q in (parallel_left r, omega (arith, e))
inner (parallel_right p) q = let (r, e) = inner p q in (parallel_right r, omega (arith, e))

pub record At (s : Score) (k : ℕ) : Type 0 where
  pub part : Score
  pub path : Within s part
  pub there : place path ≡ k

pub find : (s : Score) (k : ℕ) → k < nodes s → At s k
find (rest d) k h = record { part = rest d; path = here; there = omega arith }
find (primitive p) k h = record { part = primitive p; path = here; there = omega arith }
find (sequence a b) k h =
    ⊎_elim (λ z. record { part = sequence a b; path = here; there = sym z })
    (λ nz. ⊎_elim
    (λ l. let w = find a (k - 1) (omega arith) in record { part = w.part; path = sequence_left w.path; there = omega (arith, w.there) })
    (λ l. let w = find b (k - 1 - nodes a) (omega arith) in record { part = w.part; path = sequence_right w.path; there = omega (arith, w.there) })
    (cases_lt (k - 1) (nodes a)))
    (cases_eq k 0)
find (parallel a b) k h =
    ⊎_elim (λ z. record { part = parallel a b; path = here; there = sym z })
    (λ nz. ⊎_elim
    (λ l. let w = find a (k - 1) (omega arith) in record { part = w.part; path = parallel_left w.path; there = omega (arith, w.there) })
    (λ l. let w = find b (k - 1 - nodes a) (omega arith) in record { part = w.part; path = parallel_right w.path; there = omega (arith, w.there) })
    (cases_lt (k - 1) (nodes a)))
    (cases_eq k 0)

-- a part is no longer and has no more primitives
pub part_bare : {s t : Score} (p : Within s t) → bare t ≤ bare s
part_bare here = omega arith
part_bare (sequence_left p) = omega (arith, part_bare p)
part_bare (sequence_right p) = omega (arith, part_bare p)
part_bare (parallel_left p) = omega (arith, part_bare p)
part_bare (parallel_right p) = omega (arith, part_bare p)

pub part_primitives : {s t : Score} (p : Within s t) → primitives t ≤ primitives s
part_primitives here = omega arith
part_primitives (sequence_left p) = omega (arith, part_primitives p)
part_primitives (sequence_right p) = omega (arith, part_primitives p)
part_primitives (parallel_left p) = omega (arith, part_primitives p)
part_primitives (parallel_right p) = omega (arith, part_primitives p)

-- what stands in the row of a score where a part begins
module _ (xs : List (Node Numbers)) (s : Score) (whole : xs ≡ preorder s) {t : Score} (p : Within s t) where
  pub from_place : drop (place p) xs ≡ preorder t ++ behind p
  from_place = ap (drop (place p)) (whole ∙ row p) ∙ drop_at (before p) (preorder t ++ behind p) (place p) (length_before p)

  pub score_place : score_at xs (place p) ≡ t
  score_place = ap (λ ys. foremost (stack ys)) from_place ∙ ap foremost (stack_preorder t (behind p))

  pub take_place : take (nodes t) (drop (place p) xs) ≡ preorder t
  take_place = ap (take (nodes t)) from_place ∙ take_at (preorder t) (behind p) (nodes t) (length_preorder t)

  pub until_place : take (place p) xs ≡ before p
  until_place = ap (take (place p)) (whole ∙ row p) ∙ take_at (before p) (preorder t ++ behind p) (place p) (length_before p)

  pub past_place : drop (place p + nodes t) xs ≡ behind p
  past_place = sym (drop-drop (nodes t) (place p) xs) ∙ ap (drop (nodes t)) from_place ∙ drop_at (preorder t) (behind p) (nodes t) (length_preorder t)
