-- The number, the part and the detail of each refusal. A call that several fit is refused by the least number.
use Rattle.std.specs.Prelude.{ℕ}
use Rattle.refusals.specs.declared.refusal.Refusal.{Refusal}
use Rattle.refusals.specs.declared.refusal.Refusal.TheVariants.{Oversize, Misfit, OtherKind, TooManyInFile, IllegalNumbers, TooLongInFile, UntrueHead, BadValue, NoSuchPlace, EmptyPlace, FullPlace, NoSuchNode, NoFit, TooMany, TooLong, ShortBuffer}
use Rattle.refusals.specs.declared.refusal.Section.{Section}
use Rattle.refusals.specs.declared.refusal.Section.TheVariants as section
use Rattle.refusals.specs.declared.refusal.Part.{Part}
use Rattle.refusals.specs.declared.refusal.Part.TheVariants.{Reading, Kind, Rack}

-- the number for a section that breaks the grammar
abbrev pub section_number : Section → ℕ
section_number section.Signature = 2
section_number section.Head = 3
section_number section.Body = 5

abbrev pub number_of : Refusal → ℕ
number_of Oversize = 1
number_of (Misfit s offset) = section_number s
number_of (OtherKind offset) = 4
number_of (TooManyInFile offset) = 6
number_of (IllegalNumbers offset) = 7
number_of (TooLongInFile offset) = 8
number_of (UntrueHead offset) = 9
number_of (BadValue value) = 10
number_of (NoSuchPlace place) = 21
number_of (EmptyPlace place) = 22
number_of (FullPlace place) = 23
number_of (NoSuchNode nodes) = 24
number_of (NoFit node) = 25
number_of (TooMany nodes) = 26
number_of (TooLong length) = 27
number_of (ShortBuffer bytes) = 28

-- the reading for a file, the kind for numbers that it refuses, and else the rack
abbrev pub part_of : Refusal → Part
part_of Oversize = Reading
part_of (Misfit s offset) = Reading
part_of (OtherKind offset) = Reading
part_of (TooManyInFile offset) = Reading
part_of (IllegalNumbers offset) = Kind
part_of (TooLongInFile offset) = Reading
part_of (UntrueHead offset) = Reading
part_of (BadValue value) = Rack
part_of (NoSuchPlace place) = Rack
part_of (EmptyPlace place) = Rack
part_of (FullPlace place) = Rack
part_of (NoSuchNode nodes) = Rack
part_of (NoFit node) = Rack
part_of (TooMany nodes) = Rack
part_of (TooLong length) = Rack
part_of (ShortBuffer bytes) = Rack

abbrev pub detail_of : Refusal → ℕ
detail_of Oversize = 16384
detail_of (Misfit s offset) = offset
detail_of (OtherKind offset) = offset
detail_of (TooManyInFile offset) = offset
detail_of (IllegalNumbers offset) = offset
detail_of (TooLongInFile offset) = offset
detail_of (UntrueHead offset) = offset
detail_of (BadValue value) = value
detail_of (NoSuchPlace place) = place
detail_of (EmptyPlace place) = place
detail_of (FullPlace place) = place
detail_of (NoSuchNode nodes) = nodes
detail_of (NoFit node) = node
detail_of (TooMany nodes) = nodes
detail_of (TooLong length) = length
detail_of (ShortBuffer bytes) = bytes
