-- At every node of a score a part begins, and what a function does at the node it does to that part.
use Rattle.std.proofs.Common.{◌≡◌, ℕ, ◌+◌, ◌-◌, ◌<◌, ◌≤◌, cond, eqb, leb, [], ◌∷◌, ◌++◌, length, Some, None, Option, sym, refl, ap, ◌∙◌, inl, inr, append_assoc, append-nil, arith}
use Rattle.std.proofs.lemmas.List.{length-append}
use Rattle.std.proofs.lemmas.Bool.{cases_eq, cases_lt, le-leb, lt-leb, ne_eqb}
use Rattle.algebra.specs.declared.node.Node.{Node}
use Rattle.algebra.specs.declared.node.Node.TheVariants.{Sequence, Parallel}
use Rattle.algebra.specs.declared.numbers.Numbers.{Numbers}
use Rattle.algebra.specs.Kind.{KindModel}
use Rattle.algebra.specs.Score.{Score, Score.rest, Score.primitive, Score.sequence, Score.parallel, nodes}
use Rattle.algebra.specs.Layout.{preorder}
use Rattle.algebra.specs.Rules.{Step, Step.sequence_left, Step.sequence_right, Step.parallel_left, Step.parallel_right}
use Rattle.algebra.specs.Rewrite.{mapped, at_node}
use Rattle.algebra.specs.Theorems.{PartAt}

-- The part at a node; steps of it are steps of the score, and a function there changes just the part.
pub record Spot (node : ℕ) (s : Score) : Type 0 where
  pub place : PartAt node s
  pub steps : (K : KindModel) (a b : Score) → Step K a b → Step K (place.put a) (place.put b)
  pub does : (f : Score → Option Score) → at_node f node s ≡ mapped place.put (f place.part)

-- What stands at a pair, in its left part or in its right part, by the number of the node.
abbrev pub in_pair : (Score → Score → Score) → (Score → Option Score) → ℕ → Score → Score → Option Score
in_pair pair f node a b =
    cond (eqb node 0) (f (pair a b))
    (cond (leb node (nodes a)) (mapped (λ x. pair x b) (at_node f (node - 1) a)) (mapped (pair a) (at_node f (node - 1 - nodes a) b)))

-- What sequences and parallels share.
pub record Pairing (pair : Score → Score → Score) : Type 0 where
  pub own : Node Numbers
  pub lies : (a b : Score) → preorder (pair a b) ≡ own ∷ (preorder a ++ preorder b)
  pub finds : (f : Score → Option Score) (node : ℕ) (a b : Score) → at_node f node (pair a b) ≡ in_pair pair f node a b
  pub left : (K : KindModel) (a b c : Score) → Step K a b → Step K (pair a c) (pair b c)
  pub right : (K : KindModel) (a b c : Score) → Step K a b → Step K (pair c a) (pair c b)

pub sequences : Pairing sequence
sequences = record { own = Sequence; lies = λ a b. refl; finds = λ f node a b. refl; left = λ K a b c p. sequence_left p; right = λ K a b c p. sequence_right p }

pub parallels : Pairing parallel
parallels = record { own = Parallel; lies = λ a b. refl; finds = λ f node a b. refl; left = λ K a b c p. parallel_left p; right = λ K a b c p. parallel_right p }

length_preorder : (s : Score) → length (preorder s) ≡ nodes s
length_preorder (rest d) = refl
length_preorder (primitive p) = refl
length_preorder (sequence a b) = simp (length-append, length_preorder a, length_preorder b) (omega arith)
length_preorder (parallel a b) = simp (length-append, length_preorder a, length_preorder b) (omega arith)

mapped_itself : (o : Option Score) → o ≡ mapped (λ x. x) o
mapped_itself None = refl
mapped_itself (Some s) = refl

mapped_twice : (f g : Score → Score) (o : Option Score) → mapped f (mapped g o) ≡ mapped (λ x. f (g x)) o
mapped_twice f g None = refl
mapped_twice f g (Some s) = refl

pub at_whole : (f : Score → Option Score) (s : Score) → at_node f 0 s ≡ f s
at_whole f (rest d) = refl
at_whole f (primitive p) = refl
at_whole f (sequence a b) = refl
at_whole f (parallel a b) = refl

-- node 0 is the whole score
whole : (node : ℕ) (s : Score) → node ≡ 0 → Spot node s
whole node s z = record {
  place = record { part = s; before = []; after = []; put = λ x. x; here = sym z; own = refl; lies = λ x. sym (append-nil (preorder x)) };
  steps = λ K a b p. p;
  does = λ f. rw z (at_whole f s ∙ mapped_itself (f s));
}

module _ (pair : Score → Score → Score) (pairs : Pairing pair) where
  -- a node of a part is a node of the pair
  pub at_left : (f : Score → Option Score) (node : ℕ) (a c : Score) → node < nodes a → at_node f (1 + node) (pair a c) ≡ mapped (λ x. pair x c) (at_node f node a)
  at_left f node a c below =
      let same : 1 + node - 1 ≡ node = omega arith in
      pairs.finds f (1 + node) a c ∙ rw (ne_eqb (1 + node) 0 (omega arith), le-leb (1 + node) (nodes a) (omega arith), same)

  pub at_right : (f : Score → Option Score) (node : ℕ) (a c : Score) → at_node f (1 + nodes c + node) (pair c a) ≡ mapped (pair c) (at_node f node a)
  at_right f node a c =
      let same : 1 + nodes c + node - 1 - nodes c ≡ node = omega arith in
      pairs.finds f (1 + nodes c + node) c a ∙ rw (ne_eqb (1 + nodes c + node) 0 (omega arith), lt-leb (1 + nodes c + node) (nodes c) (omega arith), same)

  left_spot : (node : ℕ) (a c : Score) → node < nodes a → Spot node a → Spot (1 + node) (pair a c)
  left_spot node a c below spot =
      let p = spot.place in
      record {
        place = record {
          part = p.part;
          before = pairs.own ∷ p.before;
          after = p.after ++ preorder c;
          put = λ x. pair (p.put x) c;
          here = omega (arith, p.here);
          own = ap (λ x. pair x c) p.own;
          lies = λ x. pairs.lies (p.put x) c ∙ ap (λ xs. pairs.own ∷ (xs ++ preorder c)) (p.lies x) ∙ simp append_assoc;
        };
        steps = λ K a b h. pairs.left K (p.put a) (p.put b) c (spot.steps K a b h);
        does = λ f. at_left f node a c below ∙ ap (mapped (λ x. pair x c)) (spot.does f) ∙ mapped_twice (λ x. pair x c) p.put (f p.part);
      }

  right_spot : (node : ℕ) (a c : Score) → Spot node a → Spot (1 + nodes c + node) (pair c a)
  right_spot node a c spot =
      let p = spot.place in
      record {
        place = record {
          part = p.part;
          before = pairs.own ∷ (preorder c ++ p.before);
          after = p.after;
          put = λ x. pair c (p.put x);
          here = simp (length-append, length_preorder c, p.here) (omega arith);
          own = ap (pair c) p.own;
          lies = λ x. pairs.lies c (p.put x) ∙ ap (λ xs. pairs.own ∷ (preorder c ++ xs)) (p.lies x) ∙ simp append_assoc;
        };
        steps = λ K a b h. pairs.right K (p.put a) (p.put b) c (spot.steps K a b h);
        does = λ f. at_right f node a c ∙ ap (mapped (pair c)) (spot.does f) ∙ mapped_twice (pair c) p.put (f p.part);
      }

  pair_spot : (a b : Score) → ((node : ℕ) → node < nodes a → Spot node a) → ((node : ℕ) → node < nodes b → Spot node b) → (node : ℕ) → node < 1 + nodes a + nodes b → Spot node (pair a b)
  pair_spot a b in-a in_b node h = elim (cases_eq node 0) [
    | inl z ↦ whole node (pair a b) z
    | inr ne ↦ elim (cases_lt (node - 1) (nodes a)) [
      | inl below ↦
          let number : 1 + (node - 1) ≡ node = omega arith in
          rw (← number) (left_spot (node - 1) a b below (in-a (node - 1) below))
      | inr past ↦
          let k = node - 1 - nodes a in
          let number : 1 + nodes a + k ≡ node = omega arith in
          rw (← number) (right_spot k b a (in_b k (omega arith)))
    ]
  ]

  pair_none : (f : Score → Option Score) (a b : Score) → ((node : ℕ) → nodes b ≤ node → at_node f node b ≡ None) → (node : ℕ) → 1 + nodes a + nodes b ≤ node → at_node f node (pair a b) ≡ None
  pair_none f a b in_b node h =
      pairs.finds f node a b ∙ rw (ne_eqb node 0 (omega arith), lt-leb node (nodes a) (omega arith), in_b (node - 1 - nodes a) (omega arith))

pub spot_at : (s : Score) (node : ℕ) → node < nodes s → Spot node s
spot_at (rest d) node h = whole node (rest d) (omega arith)
spot_at (primitive p) node h = whole node (primitive p) (omega arith)
spot_at (sequence a b) node h = pair_spot sequence sequences a b (spot_at a) (spot_at b) node h
spot_at (parallel a b) node h = pair_spot parallel parallels a b (spot_at a) (spot_at b) node h

pub none_at : (f : Score → Option Score) (s : Score) (node : ℕ) → nodes s ≤ node → at_node f node s ≡ None
none_at f (rest d) node h = rw (ne_eqb node 0 (omega arith))
none_at f (primitive p) node h = rw (ne_eqb node 0 (omega arith))
none_at f (sequence a b) node h = pair_none sequence sequences f a b (none_at f b) node h
none_at f (parallel a b) node h = pair_none parallel parallels f a b (none_at f b) node h
