-- The first item of a file for which there is no room, or that the kind refuses.
use Rattle.std.proofs.Common.{◌≡◌, ℕ, zero, suc, ◌+◌, ◌-◌, ◌≤◌, Bool, true, false, not, cond, ◌&&◌, eqb, List, [], ◌∷◌, length, take, map, filter, find, IsSome, Some, None, Option, refl, arith, rules, slice_get}
use Rattle.std.specs.Option.{option_map, option_or}
use Rattle.std.proofs.lemmas.Bool.{ne_eqb}
use Rattle.std.proofs.lemmas.List.Sums.{sum_by-cons}
use Rattle.grammar.specs.declared.item.Item.{Item}
use Rattle.grammar.specs.Loads.{holds_primitive, excess, legal_node, illegal}
use Rattle.algebra.specs.Kind.{KindModel}
use Rattle.loading.specs.Counts.{primitive_items}

abbrev pub is_primitive : Item → Bool
is_primitive i = holds_primitive i.node

less : (n : ℕ) → suc n - 1 ≡ n
less n = omega arith

some : (n : ℕ) → eqb (suc n) 0 ≡ false
some n = ne_eqb _ _ (λ e. omega (arith, e))

abbrev pub offset_of : Item → ℕ
offset_of i = i.offset

-- an excess is at the first primitive that is one too many, or else at the first node
pub excess_first : (n m : ℕ) (is : List Item) → option_or (slice_get (map offset_of (filter is_primitive (take n is))) m) (slice_get (map offset_of is) n) ≡ excess n m is
excess_first zero m [] = refl
excess_first (suc n) m [] = refl
excess_first zero m (i ∷ is) = refl
excess_first (suc n) m (i ∷ is) = rw (some n) (go (is_primitive i) m (λ m. excess_first n m is))
  where
    go : (b : Bool) (m : ℕ) → ((m : ℕ) → option_or (slice_get (map offset_of (filter is_primitive (take n is))) m) (slice_get (map offset_of is) n) ≡ excess n m is)
        → option_or (slice_get (map offset_of (cond b (i ∷ filter is_primitive (take n is)) (filter is_primitive (take n is)))) m) (slice_get (map offset_of is) n)
        ≡ cond (b && eqb m 0) (Some i.offset) (excess (suc n - 1) (cond b (m - 1) m) is)
    go false m h = rw less (h m)
    go true zero h = refl
    go true (suc m) h = rw (less n, less m, some m) (h m)

-- where there is room for all, there are no more than may come
pub none_excess : (n m : ℕ) (is : List Item) → excess n m is ≡ None → (length is ≤ n) × (primitive_items is ≤ m)
none_excess n m [] e = (omega arith, omega arith)
none_excess zero m (i ∷ is) e = absurd (cc)
none_excess (suc n) m (i ∷ is) e = go (is_primitive i) m (rw (some n) at e) (sum_by-cons (λ (i : Item). cond (is_primitive i) 1 0) i is) (λ m. none_excess n m is)
  where
    go : (b : Bool) (m : ℕ) → cond (b && eqb m 0) (Some i.offset) (excess (suc n - 1) (cond b (m - 1) m) is) ≡ None → primitive_items (i ∷ is) ≡ cond b 1 0 + primitive_items is
        → ((m : ℕ) → excess n m is ≡ None → (length is ≤ n) × (primitive_items is ≤ m)) → (suc (length is) ≤ suc n) × (primitive_items (i ∷ is) ≤ m)
    go false m e s h = let k = h m (rw less at e) in (omega arith, omega arith)
    go true zero e s h = absurd (cc)
    go true (suc m) e s h = let k = h m (rw (less n, less m, some m) at e) in (omega arith, omega arith)

-- where there are no more than may come, there is room for all
pub room_excess : (n m : ℕ) (is : List Item) → length is ≤ n → primitive_items is ≤ m → excess n m is ≡ None
room_excess n m [] l p = refl
room_excess zero m (i ∷ is) l p = absurd (omega arith)
room_excess (suc n) m (i ∷ is) l p = rw (some n) (go (is_primitive i) m p (sum_by-cons (λ (i : Item). cond (is_primitive i) 1 0) i is) (λ m. room_excess n m is (omega arith)))
  where
    go : (b : Bool) (m : ℕ) → primitive_items (i ∷ is) ≤ m → primitive_items (i ∷ is) ≡ cond b 1 0 + primitive_items is
        → ((m : ℕ) → primitive_items is ≤ m → excess n m is ≡ None) → cond (b && eqb m 0) (Some i.offset) (excess (suc n - 1) (cond b (m - 1) m) is) ≡ None
    go false m p s h = rw less (h m (omega arith))
    go true zero p s h = absurd (omega arith)
    go true (suc m) p s h = rw (less n, less m, some m) (h m (omega arith))

-- where there are more than may come, the first of them is found
pub some_excess : (n m : ℕ) (is : List Item) → (length is ≤ n → primitive_items is ≤ m → ⊥) → IsSome (excess n m is)
some_excess n m is over = go (excess n m is) (none_excess n m is)
  where
    go : (found : Option ℕ) → (found ≡ None → (length is ≤ n) × (primitive_items is ≤ m)) → IsSome found
    go (Some o) h = search rules
    go None h = let k = h refl in absurd (over k.0 k.1)

-- the first item that the kind refuses
abbrev pub is_illegal : KindModel → Item → Bool
is_illegal K i = not (legal_node K i.node)

pub illegal_first : (K : KindModel) (is : List Item) → option_map offset_of (find (is_illegal K) is) ≡ illegal K is
illegal_first K [] = refl
illegal_first K (i ∷ is) = go (legal_node K i.node) (illegal_first K is)
  where
    go : (b : Bool) → option_map offset_of (find (is_illegal K) is) ≡ illegal K is → option_map offset_of (cond (not b) (Some i) (find (is_illegal K) is)) ≡ cond b (illegal K is) (Some i.offset)
    go true e = e
    go false e = refl
