-- What loading a text gives, with the items of its term.
use Rattle.std.specs.Prelude.{◌≡◌, ℕ, List, None, Ok, Err, Result}
use Rattle.algebra.specs.Kind.{KindModel}
use Rattle.algebra.specs.Score.{Score, nodes, primitives}
use Rattle.algebra.specs.Layout.{preorder}
use Rattle.refusals.specs.declared.refusal.Refusal.{Refusal}
use Rattle.grammar.specs.declared.item.Item.{Item}
use Rattle.grammar.specs.Items.{nodes_of}
use Rattle.grammar.specs.Loads.{Loads, illegal}
use Rattle.loading.specs.declared.checking.Loaded.{Loaded}

-- The text gives a score, whose nodes are the items, all of the kind, and whose counts are told.
pub record Given (K : KindModel) (text : List ℕ) (is : List Item) (loaded : Loaded) : Type 0 where
  pub score : Score
  pub loads : Loads K text (Ok score)
  pub nodes_are : loaded.nodes ≡ nodes score
  pub primitives_are : loaded.primitives ≡ primitives score
  pub laid : nodes_of is ≡ preorder score
  pub legal : illegal K is ≡ None

-- What the text gives: a score, or the same refusal.
abbrev pub Gives : KindModel → List ℕ → List Item → Result Loaded Refusal → Type 0
Gives K text is (Ok loaded) = Given K text is loaded
Gives K text is (Err e) = Loads K text (Err e)
