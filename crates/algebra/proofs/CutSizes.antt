-- How large joins, cuts and reversals are.
use Rattle.std.proofs.Common.{◌≡◌, ℕ, ◌+◌, ◌-◌, ◌*◌, ◌≤◌, cond, eqb, ltb, leb, refl, arith}
use Rattle.std.proofs.lemmas.Bool.{cond_both}
use Rattle.algebra.specs.Kind.{KindModel}
use Rattle.algebra.specs.Score.{Score, Score.rest, Score.primitive, Score.sequence, Score.parallel, score_length, nodes, primitives}
use Rattle.algebra.specs.Cuts.{taken, dropped, preceded, reversed}
use Rattle.algebra.specs.Theorems.{JoinSize, CutSize, CutFits, ReverseSize, ReverseFits}
use Rattle.algebra.proofs.Take.{taken_made}
use Rattle.algebra.proofs.Drop.{dropped_made}
use Rattle.algebra.proofs.Reverse.{reversed_made}

pub join_size : JoinSize
join_size a b = (refl, refl, refl, refl)

-- A score with no more primitives and no more nodes.
record NoLarger (s u : Score) : Type 0 where
  pub count : primitives u ≤ primitives s
  pub size : nodes u ≤ nodes s

same_size : (s : Score) → NoLarger s s
same_size s = record { count = omega arith; size = omega arith }

module _ (K : KindModel) where
  taken_size : (t : ℕ) (s : Score) → NoLarger s (taken K t s)
  taken_size t (rest d) = cond_both (leb d t) (rest d) (rest t) (NoLarger (rest d)) (λ _. same_size (rest d)) (λ _. record { count = omega arith; size = omega arith })
  taken_size t (primitive p) =
      let cut = primitive (K.head_of t p) in
      cond_both (leb (K.length_of p) t) (primitive p) (cond (eqb t 0) (rest 0) cut) (NoLarger (primitive p)) (λ _. same_size (primitive p))
      (λ _. cond_both (eqb t 0) (rest 0) cut (NoLarger (primitive p)) (λ _. record { count = omega arith; size = omega arith }) (λ _. record { count = omega arith; size = omega arith }))
  taken_size t (sequence a b) =
      let first = taken_size t a in
      let second = taken_size (t - score_length K a) b in
      let early = taken K t a in
      let late = sequence a (taken K (t - score_length K a) b) in
      cond_both (leb (score_length K (sequence a b)) t) (sequence a b) (cond (leb t (score_length K a)) early late) (NoLarger (sequence a b)) (λ _. same_size (sequence a b))
      (λ _. cond_both (leb t (score_length K a)) early late (NoLarger (sequence a b)) (λ _. record { count = omega arith; size = omega arith }) (λ _. record { count = omega arith; size = omega arith }))
  taken_size t (parallel a b) =
      let first = taken_size t a in
      let second = taken_size t b in
      cond_both (leb (score_length K (parallel a b)) t) (parallel a b) (parallel (taken K t a) (taken K t b)) (NoLarger (parallel a b)) (λ _. same_size (parallel a b))
      (λ _. record { count = omega arith; size = omega arith })

  dropped_size : (t : ℕ) (s : Score) → NoLarger s (dropped K t s)
  dropped_size t (rest d) = cond_both (eqb t 0) (rest d) (rest (d - t)) (NoLarger (rest d)) (λ _. same_size (rest d)) (λ _. record { count = omega arith; size = omega arith })
  dropped_size t (primitive p) =
      let cut = primitive (K.tail_of t p) in
      cond_both (eqb t 0) (primitive p) (cond (leb (K.length_of p) t) (rest 0) cut) (NoLarger (primitive p)) (λ _. same_size (primitive p))
      (λ _. cond_both (leb (K.length_of p) t) (rest 0) cut (NoLarger (primitive p)) (λ _. record { count = omega arith; size = omega arith }) (λ _. record { count = omega arith; size = omega arith }))
  dropped_size t (sequence a b) =
      let first = dropped_size t a in
      let second = dropped_size (t - score_length K a) b in
      let past = dropped K (t - score_length K a) b in
      let within = sequence (dropped K t a) b in
      cond_both (eqb t 0) (sequence a b) (cond (leb (score_length K a) t) past within) (NoLarger (sequence a b)) (λ _. same_size (sequence a b))
      (λ _. cond_both (leb (score_length K a) t) past within (NoLarger (sequence a b)) (λ _. record { count = omega arith; size = omega arith }) (λ _. record { count = omega arith; size = omega arith }))
  dropped_size t (parallel a b) =
      let first = dropped_size t a in
      let second = dropped_size t b in
      cond_both (eqb t 0) (parallel a b) (parallel (dropped K t a) (dropped K t b)) (NoLarger (parallel a b)) (λ _. same_size (parallel a b))
      (λ _. record { count = omega arith; size = omega arith })

pub cut_size : CutSize
cut_size K t s =
    let take = taken_size K t s in
    let drop = dropped_size K t s in
    (take.count, take.size, drop.count, drop.size)

pub cut_fits : CutFits
cut_fits K lengths cuts t s l fits =
    let (take_count, take-nodes, drop-count, drop-nodes) = cut_size K t s in
    let take = (taken_made K lengths cuts t s l).length in
    let drop = (dropped_made K lengths cuts t s l).length in (
      record { few_nodes = omega arith; few_primitives = omega arith; short = omega arith },
      record { few_nodes = omega arith; few_primitives = omega arith; short = omega arith },
    )

-- a rest and a sequence, for the shorter of two parts
preceded_size : (n m : ℕ) (a : Score) → (primitives (preceded n m a) ≡ primitives a) × (nodes (preceded n m a) ≡ nodes a + cond (ltb m n) 2 0)
preceded_size n m a =
    (grind arith, grind arith)

pub reverse_size : ReverseSize
reverse_size K (rest d) = (refl, refl)
reverse_size K (primitive p) = (refl, refl)
reverse_size K (sequence a b) =
    let first = reverse_size K a in
    let second = reverse_size K b in
    (omega (arith, first.0, second.0), omega (arith, first.1, second.1))
reverse_size K (parallel a b) =
    let m = score_length K a in
    let n = score_length K b in
    let first = reverse_size K a in
    let second = reverse_size K b in
    let left = preceded_size n m (reversed K a) in
    let right = preceded_size m n (reversed K b) in
    let added : cond (ltb m n) 2 0 + cond (ltb n m) 2 0 ≡ 2 * cond (eqb m n) 0 1 = grind arith in
    (omega (arith, first.0, second.0, left.0, right.0), omega (arith, first.1, second.1, left.1, right.1, added))

pub reverse_fits : ReverseFits
reverse_fits K reverses s l fits =
    let size = reverse_size K s in
    let length = (reversed_made K reverses s l).length in (
      (λ h. omega (arith, size.1, h.few_nodes)),
      λ h. record { few_nodes = omega (arith, size.1); few_primitives = omega (arith, size.0); short = omega arith },
    )
