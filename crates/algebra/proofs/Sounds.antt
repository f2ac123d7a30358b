-- The primitives of a score are legal where the score is, and end by its end.
use Rattle.std.proofs.Common.{◌≡◌, ℕ, true, List, [], ◌∷◌, map}
use Rattle.std.specs.List.{AllByRecursion}
use Rattle.std.proofs.ByRecursion.{All-append, All-weaker, All-map}
use Rattle.algebra.specs.declared.numbers.Numbers.{Numbers}
use Rattle.algebra.specs.Kind.{KindModel}
use Rattle.algebra.specs.Score.{Legal, Score, Score.rest, Score.primitive, Score.sequence, Score.parallel, score_length, Placed, placed, later}
use Rattle.algebra.proofs.Lines.{Ends, ends_placed}

-- A legal primitive that ends by n.
abbrev pub Sounds : KindModel → ℕ → Placed → Type 0
Sounds K n x = (K.legal x.what ≡ true) × Ends K n x

pub legal_placed : (K : KindModel) (s : Score) → Legal K s → AllByRecursion (λ x. K.legal x.what ≡ true) (placed K s)
legal_placed K (rest d) h = tt
legal_placed K (primitive p) h = (h, tt)
legal_placed K (sequence a b) h =
    All-append _ (placed K a) (map (later (score_length K a)) (placed K b)) (legal_placed K a h.0)
    (All-map (λ x. K.legal x.what ≡ true) (later (score_length K a)) (placed K b) (legal_placed K b h.1))
legal_placed K (parallel a b) h = All-append _ (placed K a) (placed K b) (legal_placed K a h.0) (legal_placed K b h.1)

pub all_both : {X : Type 0} (P Q : X → Type 0) (xs : List X) → AllByRecursion P xs → AllByRecursion Q xs → AllByRecursion (λ x. P x × Q x) xs
all_both P Q [] p q = tt
all_both P Q (x ∷ xs) p q = ((p.0, q.0), all_both P Q xs p.1 q.1)

pub sounds_placed : (K : KindModel) (s : Score) → Legal K s → AllByRecursion (Sounds K (score_length K s)) (placed K s)
sounds_placed K s h = all_both (λ x. K.legal x.what ≡ true) (Ends K (score_length K s)) (placed K s) (legal_placed K s h) (ends_placed K s)

-- what holds of each primitive that sounds, put to use at each of a score
pub at_each : (K : KindModel) (s : Score) → Legal K s → (P : Placed → Type 0) → ((x : Placed) → Sounds K (score_length K s) x → P x) → AllByRecursion P (placed K s)
at_each K s h P f = All-weaker (Sounds K (score_length K s)) P f (placed K s) (sounds_placed K s h)

-- what holds of all holds of each of a list
pub always : {X : Type 0} (P : X → Type 0) → ((x : X) → P x) → (xs : List X) → AllByRecursion P xs
always P f [] = tt
always P f (x ∷ xs) = (f x, always P f xs)

-- a placed primitive by itself
abbrev pub alone : ℕ → Numbers → List Placed
alone o p = record { onset = o; what = p } ∷ []
