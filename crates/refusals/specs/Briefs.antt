-- A refusal in brief.
use Rattle.std.specs.Prelude.{ℕ, List, ◌++◌, codes}
use Rattle.std.specs.Fmt.{decimal}
use Rattle.refusals.specs.declared.refusal.Refusal.{Refusal}
use Rattle.refusals.specs.declared.refusal.Part.{Part}
use Rattle.refusals.specs.declared.refusal.Part.TheVariants.{Reading, Kind, Rack}
use Rattle.refusals.specs.Numbers.{number_of, part_of, detail_of}

abbrev pub part_text : Part → List ℕ
part_text Reading = codes "reading"
part_text Kind = codes "kind"
part_text Rack = codes "rack"

-- its number, its part and its detail
abbrev pub brief_text : Refusal → List ℕ
brief_text r = codes "refused " ++ decimal (number_of r) ++ codes " " ++ part_text (part_of r) ++ codes " " ++ decimal (detail_of r)
