-- Lists read as bags: how often a thing occurs, and which occurrences in two lists are partners.
use Rattle.std.specs.Prelude.{ℕ, suc, Bool, cond, List, [], ◌∷◌, ◌++◌, nat_lt}

-- How often x occurs in a list, by a test for equality.
abbrev pub count : {X : Type 0} → (X → X → Bool) → X → List X → ℕ
count same x [] = 0
count same x (y ∷ ys) = cond (same x y) (suc (count same x ys)) (count same x ys)

-- The k-th occurrence of a thing in one list and its k-th occurrence in another are partners.
-- An x that stands behind the things in `before` is the occurrence with that many before it.
abbrev pub has_partner : {X : Type 0} → (X → X → Bool) → List X → List X → X → Bool
has_partner same other before x = nat_lt (count same x before) (count same x other)

-- Those of a list that have a partner in `other`, as they stand in the list.
abbrev pub partnered : {X : Type 0} → (X → X → Bool) → List X → List X → List X → List X
partnered same other before [] = []
partnered same other before (x ∷ xs) =
    let more = partnered same other (x ∷ before) xs in
    cond (has_partner same other before x) (x ∷ more) more

-- Those that have none, as they stand in the list.
abbrev pub unpartnered : {X : Type 0} → (X → X → Bool) → List X → List X → List X → List X
unpartnered same other before [] = []
unpartnered same other before (x ∷ xs) =
    let more = unpartnered same other (x ∷ before) xs in
    cond (has_partner same other before x) more (x ∷ more)

-- A list in the order of a model: first what has a partner there, as it stands in the model; then the rest.
abbrev pub ordered_after : {X : Type 0} → (X → X → Bool) → List X → List X → List X
ordered_after same xs model = partnered same xs [] model ++ unpartnered same model [] xs

-- What a function makes of each thing, one after the other.
abbrev pub flat_map : {X Y : Type 0} → (X → List Y) → List X → List Y
flat_map f [] = []
flat_map f (x ∷ xs) = f x ++ flat_map f xs
