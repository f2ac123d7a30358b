-- A loaded score fits the segment of a place, and what is noted of it is true.
use Rattle.std.proofs.Common.{ℕ, ◌+◌, ◌*◌, ◌<◌, ◌≤◌, List, length, ap, arith}
use Rattle.algebra.specs.Kind.{KindModel}
use Rattle.algebra.specs.Limits.{Holdable}
use Rattle.grammar.specs.declared.item.Item.{Item}
use Rattle.grammar.proofs.Standing.{read_exactly}
use Rattle.loading.specs.declared.checking.Loaded.{Loaded}
use Rattle.loading.specs.Gives.{Given}
use Rattle.loading.proofs.Rows.{length_nodes}
use Rattle.nodes.proofs.Parts.{length_preorder}
use Rattle.rack.specs.Places.{number, Counts}
use Rattle.rack.proofs.Shelves.{segment_within}

module _ (K : KindModel) (text : List ℕ) (is : List Item) (loaded : Loaded) (given : Given K text is loaded) where
  pub holdable : Holdable K given.score
  holdable = (read_exactly K text given.score given.loads).0

  -- the items fit the segment of a place
  pub items_fit : {X : Type 0} (ns : List X) (to : ℕ) → to < number ns → to * 1023 + length is ≤ length ns
  items_fit ns to h = omega (arith, segment_within ns to h, length_nodes is, ap length given.laid, length_preorder given.score, holdable.fits.few_nodes)

  -- what is noted of it
  pub counts : Counts (record { nodes = loaded.nodes; primitives = loaded.primitives }) given.score
  counts = record { nodes_are = given.nodes_are; primitives_are = given.primitives_are }
