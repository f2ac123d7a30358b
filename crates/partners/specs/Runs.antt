-- Where a placed primitive stands in a list in order, and how many of its occurrences there have been spent as partners.
use Rattle.std.specs.Prelude.{◌≡◌, ℕ, ◌<◌, min, Bool, List, ◌∷◌, slice_index}
use Rattle.std.specs.List.{prefix_len}
use Rattle.std.specs.Ordering.{is_lt}
use Rattle.algebra.specs.Bag.{count, has_partner}
use Rattle.algebra.specs.Kind.{KindModel}
use Rattle.algebra.specs.Meaning.{SameBag}
use Rattle.algebra.specs.Score.{Placed, same_placed}
use Rattle.algebra.specs.Compare.{compare_placed}

-- Where the run of x begins in a list in order: behind all that come before x.
abbrev pub start_of_run : KindModel → Placed → List Placed → ℕ
start_of_run K x ys = prefix_len (λ y. is_lt (compare_placed K y x)) ys

-- For each that occurs in a list in order, it is noted at the start of its run how many of the run are partners of what came before.
abbrev pub Tally : KindModel → List Placed → List ℕ → List Placed → Type 0
Tally K other spent before =
    (x : Placed) → 0 < count same_placed x other → slice_index spent (start_of_run K x other) ≡ min (count same_placed x before) (count same_placed x other)

-- A list in order, with a tally, holds what another list does, and notes which of it are partners of what came before.
pub record Noted (K : KindModel) (other before sorted : List Placed) (spent : List ℕ) : Type 0 where
  pub bag : SameBag sorted other
  pub tally : Tally K sorted spent before

-- Whether x, behind what came before, has a partner, and that what is noted is so with x.
pub record Spent (K : KindModel) (sorted : List Placed) (spent : List ℕ) (sorted' : List Placed) (spent' : List ℕ) (x : Placed) (answer : Bool) : Type 0 where
  pub answer_is : (other before : List Placed) → Noted K other before sorted spent → answer ≡ has_partner same_placed other before x
  pub after_is : (other before : List Placed) → Noted K other before sorted spent → Noted K other (x ∷ before) sorted' spent'
