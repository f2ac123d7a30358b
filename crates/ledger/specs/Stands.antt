-- A rack that is as a ledger says.
use Rattle.std.specs.Prelude.{◌≡◌, ℕ, length, Some, None, Option}
use Rattle.algebra.specs.Kind.{KindModel}
use Rattle.algebra.specs.Score.{Score}
use Rattle.algebra.specs.Meaning.{Means}
use Rattle.algebra.specs.Limits.{Holdable}
use Rattle.rack.specs.Shelves.{Shelf, at}
use Rattle.ledger.specs.Ledgers.{Page, Ledger, page}

-- A held score is the page's, has its length and bag, and is one that a place may hold: its primitives are legal, and it
-- has at most 1,023 nodes, 170 primitives and 16,777,215 ticks.
pub record Holds (K : KindModel) (s : Score) (p : Page) : Type 0 where
  pub is : s ≡ p.score
  pub means : Means K s p.long p.bag
  pub holdable : Holdable K s

-- A place is empty exactly where its page is blank.
abbrev pub Agrees : KindModel → Option Score → Option Page → Type 0
Agrees K None None = Unit {0}
Agrees K None (Some p) = ⊥
Agrees K (Some s) None = ⊥
Agrees K (Some s) (Some p) = Holds K s p

-- So it is at each place.
pub record Stands (K : KindModel) (shelf : Shelf) (ledger : Ledger) : Type 0 where
  pub as_many : length ledger ≡ length shelf
  pub each : (p : ℕ) → Agrees K (at shelf p) (page ledger p)
