-- Where scores stand in the nodes of a rack: each place has a segment of 1,023 nodes, and a score stands at its front.
use Rattle.std.specs.Prelude.{◌≡◌, ℕ, ◌+◌, ◌*◌, ◌/◌, ◌<◌, ◌≤◌, ◌⊎◌, min, List, length, map, take, drop, Some, None, Option, slice_index_or}
use Rattle.std.specs.List.{range_with_len}
use Rattle.algebra.specs.declared.numbers.Numbers.{Numbers}
use Rattle.algebra.specs.declared.node.Node.{Node}
use Rattle.algebra.specs.Kind.{KindModel}
use Rattle.algebra.specs.Score.{Score, nodes, primitives}
use Rattle.algebra.specs.Layout.{preorder, view, score_of}
use Rattle.algebra.specs.Limits.{Fits}
use Rattle.building.specs.declared.size.Size.{Size}
use Rattle.building.specs.Sizes.{size_of}
use Rattle.rack.specs.declared.place.Place.{Place}

-- One place for each 1,023 nodes, up to 8.
abbrev pub number : {X : Type 0} → List X → ℕ
number ns = min 8 (length ns / 1023)

-- The note of a score of a size.
abbrev pub place_of : Size → Place
place_of size = record { nodes = size.nodes; primitives = size.primitives }

-- The first n nodes of a place's segment.
abbrev pub used : {X : Type 0} → List X → ℕ → ℕ → List X
used ns p n = take n (drop (p * 1023) ns)

-- What is noted of a place.
abbrev pub place_at : List (Option Place) → ℕ → Option Place
place_at places p = slice_index_or places p None

-- What a place holds, by its note.
abbrev pub held_at : List (Node Numbers) → ℕ → Option Place → Option Score
held_at xs p None = None
held_at xs p (Some place) = Some (score_of (used xs p place.nodes))

-- What the places hold.
abbrev pub shelf : {P : Type 0} → (P → Numbers) → List (Node P) → List (Option Place) → List (Option Score)
shelf f ns places = map (λ p. held_at (view f ns) p (place_at places p)) (range_with_len 0 (number ns))

-- The n nodes from a on lie outside the m nodes from `at` on.
abbrev pub Apart : ℕ → ℕ → ℕ → ℕ → Type 0
Apart a n at m = (a + n ≤ at) ⊎ (at + m ≤ a)

-- A note counts a score's nodes and primitives.
pub record Counts (place : Place) (s : Score) : Type 0 where
  pub nodes_are : place.nodes ≡ nodes s
  pub primitives_are : place.primitives ≡ primitives s

-- A place of the rack holds a score that it has room for, of which the note is true.
pub record Noted {P : Type 0} (K : KindModel) (f : P → Numbers) (ns : List (Node P)) (p : ℕ) (place : Place) : Type 0 where
  pub there : p < number ns
  pub score : Score
  pub stands : used (view f ns) p place.nodes ≡ preorder score
  pub counts : Counts place score
  pub fits : Fits K score

-- Nodes are those of a score that a place has room for, and a size is its size.
pub record Ready (K : KindModel) (xs : List (Node Numbers)) (size : Size) (s : Score) : Type 0 where
  pub nodes : xs ≡ preorder s
  pub size_is : size ≡ size_of K s
  pub fits : Fits K s

-- There are 8 notes, and each is true; past the rack's places nothing is noted.
pub record Sound {P : Type 0} (K : KindModel) (f : P → Numbers) (ns : List (Node P)) (places : List (Option Place)) : Type 0 where
  pub eight : length places ≡ 8
  pub true : (p : ℕ) (place : Place) → place_at places p ≡ Some place → Noted K f ns p place
