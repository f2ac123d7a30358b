-- Where a placed primitive stands in a list in order.
use Rattle.std.proofs.Common.{◌≡◌, ℕ, zero, suc, ◌+◌, ◌<◌, Bool, true, false, cond, List, [], ◌∷◌, Some, Ordering, Less, Equal, Greater, sym, refl, ap, ◌∙◌, subst, zero-add, arith}
use Rattle.std.specs.Ordering.{is_lt}
use Rattle.std.specs.Prelude.{◌↔◌}
use Rattle.std.specs.List.{AllByRecursion, slice_get}
use Rattle.std.proofs.ByRecursion.{All-weaker}
use Rattle.algebra.specs.Bag.{count}
use Rattle.algebra.specs.Kind.{KindModel, OrderLaws, opposite}
use Rattle.algebra.specs.Score.{Placed, same_placed}
use Rattle.algebra.specs.Compare.{compare_placed}
use Rattle.algebra.proofs.Compare.{LegalPlaced, self, equal, flipped, before}
use Rattle.algebra.proofs.Complete.{placed_equality}
use Rattle.algebra.proofs.Differing.{all_count}
use Rattle.algebra.proofs.Sounds.{all_both}
use Rattle.normal.specs.Placing.{AllLegal}
use Rattle.comparing.specs.Order.{NotBefore, Sorted}
use Rattle.comparing.proofs.Partings.{absent}
use Rattle.partners.specs.Runs.{start_of_run}

pub less : (o : Ordering) → is_lt o ≡ true → o ≡ Less
less Less e = refl
less Equal e = let z : ◌≡◌ {A = ℕ} 0 1 = cc in absurd (omega arith)
less Greater e = let z : ◌≡◌ {A = ℕ} 0 1 = cc in absurd (omega arith)

same_itself : (x y : Placed) → y ≡ x → same_placed x y ≡ true
same_itself x y e = subst (λ z. same_placed x z ≡ true) (sym e) (placed_equality.self x)

occurs_there : (x : Placed) (ys : List Placed) (k : ℕ) → slice_get ys k ≡ Some x → 0 < count same_placed x ys
occurs_there x [] k h = let z : ◌≡◌ {A = ℕ} 0 1 = cc in absurd (omega arith)
occurs_there x (y ∷ ys) zero h = let e : y ≡ x = cc in rw (same_itself x y e) (omega arith)
occurs_there x (y ∷ ys) (suc k) h = let known = occurs_there x ys k h in grind arith

module _ (K : KindModel) (order : OrderLaws K) (x : Placed) (x_legal : LegalPlaced K order x) where
  -- where the first does not come before x, nothing does
  under : (y z : Placed) → LegalPlaced K order y → LegalPlaced K order z → NotBefore K x y → compare_placed K z x ≡ Less → compare_placed K z y ≡ Less
  under y z l m n d = go (compare_placed K y x) refl
    where
      go : (o : Ordering) → compare_placed K y x ≡ o → compare_placed K z y ≡ Less
      go Less e = absurd (n e)
      go Equal e = subst (λ w. compare_placed K z w ≡ Less) (sym (equal K order y x l x_legal e)) d
      go Greater e = before K order z x y m x_legal l d (flipped K order y x l x_legal ∙ ap opposite e)

  pub none_before : (y : Placed) (ys : List Placed) → AllLegal K (y ∷ ys) → Sorted K (y ∷ ys) → NotBefore K x y → AllByRecursion (NotBefore K x) (y ∷ ys)
  none_before y ys a s n = (
    n,
    All-weaker (λ z. LegalPlaced K order z × NotBefore K y z) (NotBefore K x) (λ z g d. g.1 (under y z a.0 g.0 n d)) ys (all_both (LegalPlaced K order) (NotBefore K y) ys a.1 s.0),
  )

  -- x does not occur in a list in order whose first comes behind it
  absent_ahead : (y : Placed) (ys : List Placed) → AllLegal K (y ∷ ys) → Sorted K (y ∷ ys) → compare_placed K y x ≡ Greater → count same_placed x (y ∷ ys) ≡ 0
  absent_ahead y ys a s e =
      let up : compare_placed K x y ≡ Less = flipped K order y x a.0 x_legal ∙ ap opposite e in
      let first : NotBefore K y y = λ d. let q = self K order y a.0 in let z : ◌≡◌ {A = ℕ} 0 1 = cc in omega arith in
      absent (NotBefore K y) (y ∷ ys) (first, s.0) x (λ q. q up)

  -- where nothing comes before x, its occurrences stand first, and no more
  run_first : (ys : List Placed) (u : ℕ) → AllLegal K ys → Sorted K ys → AllByRecursion (NotBefore K x) ys → (u < count same_placed x ys) ↔ (slice_get ys u ≡ Some x)
  run_first [] u a s n = ((λ l. absurd (omega arith)), (λ h. let z : ◌≡◌ {A = ℕ} 0 1 = cc in absurd (omega arith)))
  run_first (y ∷ ys) u a s n = go (compare_placed K y x) refl u (λ v. run_first ys v a.1 s.1 n.1)
    where
      go : (o : Ordering) → compare_placed K y x ≡ o → (v : ℕ) → ((v : ℕ) → (v < count same_placed x ys) ↔ (slice_get ys v ≡ Some x)) → (v < count same_placed x (y ∷ ys)) ↔ (slice_get (y ∷ ys) v ≡ Some x)
      go Less e v known = absurd (n.0 e)
      go Equal e zero known = let is = equal K order y x a.0 x_legal e in ((λ l. ap Some is), (λ h. rw (same_itself x y is) (omega arith)))
      go Equal e (suc v) known =
          let t = same_itself x y (equal K order y x a.0 x_legal e) in
          ((λ l. (known v).0 (omega (arith, rw t at l))), (λ h. let l = (known v).1 h in rw t (omega arith)))
      go Greater e v known = let none = absent_ahead y ys a s e in ((λ l. absurd (omega arith)), (λ h. absurd (omega (arith, occurs_there x (y ∷ ys) v h))))

  passed_over : (y : Placed) (ys : List Placed) → compare_placed K y x ≡ Less → count same_placed x (y ∷ ys) ≡ count same_placed x ys
  passed_over y ys e = go (same_placed x y) refl
    where
      go : (b : Bool) → same_placed x y ≡ b → cond b (suc (count same_placed x ys)) (count same_placed x ys) ≡ count same_placed x ys
      go false d = refl
      go true d =
          let q : compare_placed K y x ≡ Equal = subst (λ z. compare_placed K z x ≡ Equal) (placed_equality.sound x y d) (self K order x x_legal) in
          let z : ◌≡◌ {A = ℕ} 0 1 = cc in absurd (omega arith)

  pub not_less : (y : Placed) (o : Ordering) → compare_placed K y x ≡ o → is_lt o ≡ false → NotBefore K x y
  not_less y o e h d = let z : ◌≡◌ {A = ℕ} 0 1 = cc in omega arith

  -- from the start of the run of x on stand its occurrences, and no more
  pub at_start : (ys : List Placed) (u : ℕ) → AllLegal K ys → Sorted K ys → (u < count same_placed x ys) ↔ (slice_get ys (start_of_run K x ys + u) ≡ Some x)
  at_start [] u a s = run_first [] u a s tt
  at_start (y ∷ ys) u a s = go (is_lt (compare_placed K y x)) refl (at_start ys u a.1 s.1)
    where
      go : (b : Bool) → is_lt (compare_placed K y x) ≡ b → (u < count same_placed x ys) ↔ (slice_get ys (start_of_run K x ys + u) ≡ Some x) → (u < count same_placed x (y ∷ ys)) ↔ (slice_get (y ∷ ys) (cond b (1 + start_of_run K x ys) 0 + u) ≡ Some x)
      go true e known =
          let next : suc (start_of_run K x ys + u) ≡ 1 + start_of_run K x ys + u = omega arith in
          let over = passed_over y ys (less _ e) in
          subst (λ k. (u < count same_placed x (y ∷ ys)) ↔ (slice_get (y ∷ ys) k ≡ Some x)) next ((λ l. known.0 (omega arith)), (λ h. let l = known.1 h in omega arith))
      go false e known = subst (λ k. (u < count same_placed x (y ∷ ys)) ↔ (slice_get (y ∷ ys) k ≡ Some x)) (sym (zero-add u)) (run_first (y ∷ ys) u a s (none_before y ys a s (not_less y _ refl e)))

-- two that occur and whose runs begin at one place are the same
pub starts_apart : (K : KindModel) (order : OrderLaws K) (x y : Placed) (zs : List Placed) → AllLegal K zs → Sorted K zs → 0 < count same_placed x zs → 0 < count same_placed y zs
    → start_of_run K x zs ≡ start_of_run K y zs → x ≡ y
starts_apart K order x y zs a s p q e =
    let h = (at_start K order x (all_count (LegalPlaced K order) zs a x p) zs 0 a s).0 p in
    let k = (at_start K order y (all_count (LegalPlaced K order) zs a y q) zs 0 a s).0 q in
    let there = ap (λ n. slice_get zs (n + 0)) e in
    let is : Some x ≡ Some y = cc in
    cc
