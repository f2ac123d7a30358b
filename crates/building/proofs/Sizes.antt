-- Sizes of scores, and what the limits say of them.
use Rattle.std.proofs.Common.{◌≡◌, ℕ, ◌<◌, ◌≤◌, List, length, Ok, Err, OnOk, Result, sym, refl, ap, ◌∙◌, subst, arith}
use Rattle.std.proofs.lemmas.List.{length-map}
use Rattle.std.proofs.lemmas.Bool.Decides.{nat_tests}
use Rattle.algebra.specs.declared.numbers.Numbers.{Numbers}
use Rattle.algebra.specs.declared.node.Node.{Node}
use Rattle.algebra.specs.Kind.{KindModel}
use Rattle.algebra.specs.Score.{Score, nodes, primitives, score_length}
use Rattle.algebra.specs.Layout.{seen, view, preorder}
use Rattle.algebra.specs.Limits.{Fits}
use Rattle.refusals.specs.declared.refusal.Refusal.{Refusal}
use Rattle.refusals.specs.declared.refusal.Refusal.TheVariants.{TooMany}
use Rattle.refusals.specs.Checks.{Check, passed, all, followed}
use Rattle.nodes.proofs.Parts.{length_preorder}
use Rattle.building.specs.declared.size.Size.{Size}
use Rattle.building.specs.Sizes.{size_of, few, size_limits, limits, sized}

-- the size of the score that the nodes of a kind are
pub size_is : (K : KindModel) (s : Score) {P : Type 0} (f : P → Numbers) (row : List (Node P)) (m l : ℕ) → view f row ≡ preorder s → m ≡ primitives s → l ≡ score_length K s → record { nodes = length row; primitives = m; length = l } ≡ size_of K s
size_is K s f row m l is count long =
    let few : length row ≡ nodes s = sym (length-map row (seen f)) ∙ ap length is ∙ length_preorder s in
    λ i. record { nodes = few i; primitives = count i; length = long i }

-- what is answered of it
pub sized_from : (K : KindModel) (s : Score) (size : Size) (k : Check) → size ≡ size_of K s → k ≡ all (size_limits size) → followed k (Ok size) ≡ sized K s
sized_from K s size k is answer = λ i. followed ((answer ∙ ap (λ z. all (size_limits z)) is) i) (Ok (is i))

-- too many nodes
pub few_no : (n m : ℕ) → 1023 < n → Err (TooMany n) ≡ few n m
few_no n m h = grind (arith, nat_tests)

-- a size within the limits
pub fits_within : (K : KindModel) (s : Score) (size : Size) → size ≡ size_of K s → (size.nodes ≤ 1023) × (size.primitives ≤ 170) × (size.length ≤ 16777215) → Fits K s
fits_within K s size is w =
    let P : Size → Type 0 = λ z. (z.nodes ≤ 1023) × (z.primitives ≤ 170) × (z.length ≤ 16777215) in
    let v = subst P is w in
    record { few_nodes = v.0; few_primitives = v.1; short = v.2 }

-- what an answer says of the score
pub record Accepted (K : KindModel) (s : Score) (size : Size) : Type 0 where
  pub is : size ≡ size_of K s
  pub passes : all (limits K s) ≡ passed
  pub fits : Fits K s

within : (n m l : ℕ) → all (size_limits (record { nodes = n; primitives = m; length = l })) ≡ passed → (n ≤ 1023) × (m ≤ 170) × (l ≤ 16777215)
within n m l h = (grind (arith, nat_tests), grind (arith, nat_tests), grind (arith, nat_tests))

pub accepted : (K : KindModel) (s : Score) (size : Size) → Ok size ≡ sized K s → Accepted K s size
accepted K s size h = at (all (limits K s)) refl h
  where
    at : (k : Check) → all (limits K s) ≡ k → Ok size ≡ followed k (Ok (size_of K s)) → Accepted K s size
    at (Ok u) e h = record { is = cc; passes = e; fits = fits_within K s (size_of K s) refl (within (nodes s) (primitives s) (score_length K s) e) }
    at (Err e') e h = absurd (grind arith)

pub refused : (K : KindModel) (s : Score) (e : Refusal) → Err e ≡ sized K s → Err e ≡ all (limits K s)
refused K s e h = at (all (limits K s)) h
  where
    at : (k : Check) → Err e ≡ followed k (Ok (size_of K s)) → Err e ≡ k
    at (Ok u) h = absurd (grind arith)
    at (Err e') h = cc

-- what holds anyway holds of an answer that is not a refusal
pub on_always : {X E A : Type 0} (r : Result X E) → A → OnOk r A
on_always (Ok x) a = a
on_always (Err e) a = tt
