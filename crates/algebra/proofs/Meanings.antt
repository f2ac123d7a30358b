-- What is made of scores means what is made of their lengths and bags.
use Rattle.std.proofs.Common.{ℕ, List, sym, ap, ◌∙◌, arith}
use mathlib.Core.List.Permᴰ.{symm as permuted-sym}
use mathlib.Core.List.Permᴰ.{trans as permuted-trans}
use mathlib.Core.List.{Permᴰ as Permutation}
use Rattle.algebra.specs.Kind.{KindModel}
use Rattle.algebra.specs.Score.{Score, score_length, Placed, placed, later}
use Rattle.algebra.specs.Cuts.{taken_one, dropped_one, reversed_one, reversed_bag}
use Rattle.algebra.specs.Meaning.{Means}
use Rattle.algebra.specs.Theorems.{JoinMeans, ChainMeans, TakeMeans, DropMeans, ReverseMeans}
use Rattle.algebra.proofs.Bags.{permuted_equal, permuted_append, permuted_map, permuted_flat_map}
use Rattle.algebra.proofs.Sound.{chain_kept}
use Rattle.algebra.proofs.Complete.{same_bag, bag_permuted}
use Rattle.algebra.proofs.Take.{taken_made}
use Rattle.algebra.proofs.Drop.{dropped_made}
use Rattle.algebra.proofs.Reverse.{reversed_made}

permutation_of : (K : KindModel) (s : Score) {n : ℕ} (xs : List Placed) → Means K s n xs → Permutation (placed K s) xs
permutation_of K s xs m = bag_permuted (placed K s) xs m.1

pub join_means : JoinMeans
join_means K a b m n xs ys p q =
    let first = permutation_of K a xs p in
    let second = permutation_of K b ys q in (
      (omega (arith, p.0, q.0), same_bag (permuted_append first (rw p.0 (permuted_map (later m) second)))),
      (omega (arith, p.0, q.0), same_bag (permuted_append first second)),
    )

pub chain_means : ChainMeans
chain_means K s t n xs m c =
    let k = chain_kept c in
    (sym k.length ∙ m.0, same_bag (permuted-trans (permuted-sym k.bag) (permutation_of K s xs m)))

pub take_means : TakeMeans
take_means K lengths cuts t s n xs l m =
    let u = taken_made K lengths cuts t s l in
    (u.legal, (omega (arith, u.length, m.0), same_bag (permuted-trans (permuted_equal u.bag) (permuted_flat_map (taken_one K t) (permutation_of K s xs m)))))

pub drop_means : DropMeans
drop_means K lengths cuts t s n xs l m =
    let u = dropped_made K lengths cuts t s l in
    (u.legal, (omega (arith, u.length, m.0), same_bag (permuted-trans (permuted_equal u.bag) (permuted_flat_map (dropped_one K t) (permutation_of K s xs m)))))

pub reverse_means : ReverseMeans
reverse_means K reverses s n xs l m =
    let u = reversed_made K reverses s l in
    let there = permuted-trans u.bag (permuted_map (reversed_one K (score_length K s)) (permutation_of K s xs m)) in
    (u.legal, (u.length ∙ m.0, same_bag (permuted-trans there (permuted_equal (ap (λ k. reversed_bag K k xs) m.0)))))
