-- What is certified of a rack after any run of calls, by the ledger that is kept of the run.
use Rattle.std.specs.Prelude.{◌≡◌, ℕ, ◌↔◌, List, Some, Ok}
use Rattle.algebra.specs.Kind.{KindModel}
use Rattle.algebra.specs.Rules.{Chain}
use Rattle.algebra.specs.Compare.{SaysOf}
use Rattle.comparing.specs.declared.comparison.Comparison.{Comparison}
use Rattle.comparing.specs.declared.comparison.Comparison.TheVariants.{Same}
use Rattle.comparing.specs.Comparisons.{meant}
use Rattle.render.specs.declared.entry.Entry.{Entry}
use Rattle.drawing.specs.Drawn.{drawn, drawn_score}
use Rattle.rack.specs.Shelves.{Shelf, score_held}
use Rattle.rack.specs.Comparing.{compare_answer, normal_bytes_at}
use Rattle.ledger.specs.declared.call.Call.{Call}
use Rattle.ledger.specs.Answers.{Answer}
use Rattle.ledger.specs.Ledgers.{Page, Ledger, blank, page, Kept}
use Rattle.ledger.specs.Stands.{Stands}

-- Of any two places whose pages are not blank, and every setting of the renderer:
pub record TwoPlaces (K : KindModel) {S P : Type 0} (start : S → ℕ → P) (entered : S → Entry → P → P) (shelf : Shelf) (a b : ℕ) (p q : Page) : Type 0 where
  -- a. write normal of one after the other gives the bytes of write normal of the other after itself exactly where a chain of rules leads from one to the other;
  pub bytes : (normal_bytes_at K shelf a b ≡ normal_bytes_at K shelf b b) ↔ Chain K p.score q.score
  -- b. comparing, where it is not refused, says same exactly where such a chain exists, and else what is so by the lengths and bags on the pages;
  pub same : (c : Comparison) → compare_answer K shelf a b ≡ Ok c → (c ≡ Same) ↔ Chain K p.score q.score
  pub says : (c : Comparison) → compare_answer K shelf a b ≡ Ok c → SaysOf K p.long p.bag q.long q.bag (meant c)
  -- c. a score's picture is the one that is started with the length on its page, with each occurrence in the page's bag entered once;
  pub drawing : (settings : S) → drawn_score (start settings) (entered settings) K (score_held shelf a) ≡ drawn (start settings) (entered settings) K p.long p.bag
  -- and where a chain exists both scores are drawn alike.
  pub alike : Chain K p.score q.score → (settings : S) → drawn_score (start settings) (entered settings) K (score_held shelf a) ≡ drawn_score (start settings) (entered settings) K (score_held shelf b)

-- The rack is as the ledger says, and so are its answers and pictures.
pub record Certified (K : KindModel) {S P : Type 0} (start : S → ℕ → P) (entered : S → Entry → P → P) (shelf : Shelf) (ledger : Ledger) : Type 0 where
  pub stands : Stands K shelf ledger
  pub any_two : (a b : ℕ) (p q : Page) → page ledger a ≡ Some p → page ledger b ≡ Some q → TwoPlaces K start entered shelf a b p q

-- Where the rack was as some ledger says before a run, it is as every ledger says that is kept of the run from there.
abbrev pub Continued : (K : KindModel) {S P : Type 0} → (S → ℕ → P) → (S → Entry → P → P) → Shelf → List Call → List Answer → Shelf → Type 0
Continued K start entered before calls answers after = (l m : Ledger) → Stands K before l → Kept K calls answers l m → Certified K start entered after m

-- After a rack of n places was made and calls were made on it: a ledger is kept of them, from a blank one, and the rack is as every such ledger says.
pub record Certificate (K : KindModel) {S P : Type 0} (start : S → ℕ → P) (entered : S → Entry → P → P) (n : ℕ) (calls : List Call) (answers : List Answer) (shelf : Shelf) : Type 0 where
  pub kept : (ledger : Ledger) × Kept K calls answers (blank n) ledger
  pub certified : (ledger : Ledger) → Kept K calls answers (blank n) ledger → Certified K start entered shelf ledger
