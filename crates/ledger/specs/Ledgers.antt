-- The ledger: what is put on paper of a run of calls, from the calls' arguments and from which of them were refused.
use Rattle.std.specs.Prelude.{◌≡◌, ℕ, ◌+◌, ◌-◌, min, max, Bool, true, false, List, [], ◌∷◌, ◌++◌, map, replicate, Some, None, Ok, Option, slice_index_or, slice_set}
use Rattle.algebra.specs.Kind.{KindModel}
use Rattle.algebra.specs.Score.{Score, Score.rest, Score.sequence, Score.parallel, score_length, Placed, placed, later}
use Rattle.algebra.specs.Cuts.{taken, taken_bag, dropped, dropped_bag, reversed, reversed_bag}
use Rattle.algebra.specs.Normal.{normal}
use Rattle.grammar.specs.Loads.{Loads}
use Rattle.building.specs.Steps.{step_named, stepped}
use Rattle.ledger.specs.declared.call.Call.{Call}
use Rattle.ledger.specs.declared.call.Call.TheVariants as call
use Rattle.ledger.specs.Answers.{Answer, refused}

-- A page that is not blank: a score, and beside it a length and a bag of placed primitives, in any order.
pub record Page : Type 0 where
  pub score : Score
  pub long : ℕ
  pub bag : List Placed

-- A page for each place; blank where there is none.
abbrev pub Ledger : Type 0
Ledger = List (Option Page)

abbrev pub blank : ℕ → Ledger
blank n = replicate n None

abbrev pub page : Ledger → ℕ → Option Page
page ledger p = slice_index_or ledger p None

-- A file's term, and what it means.
abbrev pub load_page : KindModel → Score → Page
load_page K s = record { score = s; long = score_length K s; bag = placed K s }

-- A rest: its ticks and an empty bag.
abbrev pub rest_page : ℕ → Page
rest_page d = record { score = rest d; long = d; bag = [] }

-- Lengths and bags of what is made of other scores come from those on their pages, not from the term.
abbrev pub sequence_page : Page → Page → Page
sequence_page p q = record { score = sequence p.score q.score; long = p.long + q.long; bag = p.bag ++ map (later p.long) q.bag }

abbrev pub parallel_page : Page → Page → Page
parallel_page p q = record { score = parallel p.score q.score; long = max p.long q.long; bag = p.bag ++ q.bag }

abbrev pub reverse_page : KindModel → Page → Page
reverse_page K p = record { score = reversed K p.score; long = p.long; bag = reversed_bag K p.long p.bag }

abbrev pub take_page : KindModel → ℕ → Page → Page
take_page K t p = record { score = taken K t p.score; long = min p.long t; bag = taken_bag K t p.bag }

abbrev pub drop_page : KindModel → ℕ → Page → Page
drop_page K t p = record { score = dropped K t p.score; long = p.long - t; bag = dropped_bag K t p.bag }

abbrev pub normal_page : KindModel → Page → Page
normal_page K p = record { score = normal K p.score; long = p.long; bag = p.bag }

-- A page with another score; its length and bag stay.
abbrev pub rescored : Page → Option Score → Option Page
rescored p None = None
rescored p (Some s) = Some (record { score = s; long = p.long; bag = p.bag })

-- What is made of one page or of two; of a blank page nothing is made.
abbrev pub from_one : (Page → Option Page) → Option Page → Option Page
from_one f None = None
from_one f (Some p) = f p

abbrev pub from_two : (Page → Page → Page) → Option Page → Option Page → Option Page
from_two f None o = None
from_two f (Some p) o = from_one (λ q. Some (f p q)) o

-- What a call that is not refused makes of a ledger.
abbrev pub Accepted : KindModel → Call → Ledger → Ledger → Type 0
Accepted K (call.Load to text) l m = (s : Score) × Loads K text.now (Ok s) × (m ≡ slice_set l to (Some (load_page K s)))
Accepted K (call.Rest to ticks) l m = m ≡ slice_set l to (Some (rest_page ticks))
Accepted K (call.JoinSequence to a b) l m = m ≡ slice_set l to (from_two sequence_page (page l a) (page l b))
Accepted K (call.JoinParallel to a b) l m = m ≡ slice_set l to (from_two parallel_page (page l a) (page l b))
Accepted K (call.Reverse to a) l m = m ≡ slice_set l to (from_one (λ p. Some (reverse_page K p)) (page l a))
Accepted K (call.Take to a ticks) l m = m ≡ slice_set l to (from_one (λ p. Some (take_page K ticks p)) (page l a))
Accepted K (call.Drop to a ticks) l m = m ≡ slice_set l to (from_one (λ p. Some (drop_page K ticks p)) (page l a))
Accepted K (call.Normalise to a) l m = m ≡ slice_set l to (from_one (λ p. Some (normal_page K p)) (page l a))
Accepted K (call.Rewrite place node rule way split) l m =
    m ≡ slice_set l place (from_one (λ p. rescored p (stepped K (step_named rule way split) node p.score)) (page l place))
Accepted K (call.Clear place) l m = m ≡ slice_set l place None
Accepted K (call.Tell place) l m = m ≡ l
Accepted K (call.Compare x y) l m = m ≡ l
Accepted K (call.Write place) l m = m ≡ l
Accepted K (call.WriteNormal place model) l m = m ≡ l
Accepted K (call.Draw place) l m = m ≡ l

-- A refused call alters no page.
abbrev pub Entered : KindModel → Call → Bool → Ledger → Ledger → Type 0
Entered K call true l m = m ≡ l
Entered K call false l m = Accepted K call l m

-- The ledger from one to another over a list of calls, as many as have answers.
abbrev pub Kept : KindModel → List Call → List Answer → Ledger → Ledger → Type 0
Kept K [] answers l m = m ≡ l
Kept K (call ∷ calls) [] l m = m ≡ l
Kept K (call ∷ calls) (answer ∷ answers) l m = (k : Ledger) × Entered K call (refused answer) l k × Kept K calls answers k m
