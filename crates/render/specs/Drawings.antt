-- What holds of every renderer: its law, and what it makes of lists of entries.
use Rattle.std.specs.Prelude.{◌≡◌, List, fold}
use Rattle.render.specs.Entries.{SameEntries}
use Rattle.render.specs.declared.entry.Entry.{Entry}

-- The law: two things entered in either order make the same picture of any picture.
abbrev pub InEitherOrder : {S P : Type 0} → (S → Entry → P → P) → Type 0
InEitherOrder {S} {P} entered = (s : S) (p : P) (a b : Entry) → entered s b (entered s a p) ≡ entered s a (entered s b p)

-- The picture after all entries of a list, one after the other.
abbrev pub entered_all : {P : Type 0} → (Entry → P → P) → List Entry → P → P
entered_all entered es p = fold (λ q e. entered e q) p es

-- The theorem: lists that are equal bags make the same picture of any picture.
abbrev pub InAnyOrder : {S P : Type 0} → (S → Entry → P → P) → Type 0
InAnyOrder {S} {P} entered = (s : S) (p : P) (es fs : List Entry) → SameEntries es fs → entered_all (entered s) es p ≡ entered_all (entered s) fs p

-- What was spared from some state to the first is spared to the second too.
abbrev pub StaysSpared : {R : Type 0} → (R → R → Type 0) → R → R → Type 0
StaysSpared {R} spares first second = (before : R) → spares before first → spares before second
