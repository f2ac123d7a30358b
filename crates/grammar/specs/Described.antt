-- What a reading of a whole file hands on.
use Rattle.std.specs.Prelude.{◌≡◌, ℕ, ◌≤◌, List, length, take}
use Rattle.grammar.specs.declared.head.Head.{Head}
use Rattle.grammar.specs.declared.item.Item.{Item}
use Rattle.grammar.specs.Files.{File, GrammaticalFile, print_file, ticks_offset, count_offset, body_offset}
use Rattle.grammar.specs.Items.{items}

-- The head has the file's two numbers and where they stand, and the items are the first 1,024 nodes of its term.
pub record Describes (f : File) (head : Head) (is : List Item) : Type 0 where
  pub within : GrammaticalFile f
  pub ticks : head.ticks.value ≡ f.ticks
  pub ticks_at : head.ticks.offset ≡ ticks_offset f
  pub count : head.count.value ≡ f.count
  pub count_at : head.count.offset ≡ count_offset f
  pub drafted : is ≡ take 1024 (items (body_offset f) f.body)

-- The text is the printed form of a file of the kind, of at most 16,384 bytes, which the head and the items describe.
pub record ReadAs (kind text : List ℕ) (head : Head) (is : List Item) : Type 0 where
  pub file : File
  pub small : length text ≤ 16384
  pub kind_is : file.kind ≡ kind
  pub printed : text ≡ print_file file
  pub describes : Describes file head is
