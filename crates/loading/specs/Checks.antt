-- What checking a file's head and items for a kind answers.
use Rattle.std.specs.Prelude.{◌≡◌, List, None, Ok, Err, Result}
use Rattle.algebra.specs.Kind.{KindModel}
use Rattle.algebra.specs.Score.{nodes, primitives}
use Rattle.algebra.specs.Layout.{preorder}
use Rattle.refusals.specs.declared.refusal.Refusal.{Refusal}
use Rattle.grammar.specs.declared.item.Item.{Item}
use Rattle.grammar.specs.Files.{File}
use Rattle.grammar.specs.Items.{nodes_of}
use Rattle.grammar.specs.Loads.{illegal, checked}
use Rattle.loading.specs.declared.checking.Loaded.{Loaded}

-- The file gives its term, whose nodes are the items, all of the kind, and whose counts are told.
pub record Accepted (K : KindModel) (f : File) (is : List Item) (loaded : Loaded) : Type 0 where
  pub answer : checked K f ≡ Ok f.body
  pub nodes_are : loaded.nodes ≡ nodes f.body
  pub primitives_are : loaded.primitives ≡ primitives f.body
  pub laid : nodes_of is ≡ preorder f.body
  pub legal : illegal K is ≡ None

-- What the file gives: its term, or the same refusal.
abbrev pub Checks : KindModel → File → List Item → Result Loaded Refusal → Type 0
Checks K f is (Ok loaded) = Accepted K f is loaded
Checks K f is (Err e) = checked K f ≡ Err e
