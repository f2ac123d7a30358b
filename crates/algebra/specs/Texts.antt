-- The text of numbers.
use Rattle.std.specs.Prelude.{ℕ, List, ◌++◌, codes}
use Rattle.std.specs.Fmt.{decimal}
use Rattle.algebra.specs.declared.numbers.Numbers.{Numbers}

-- the four in base ten, with commas between them
abbrev pub numbers_text : Numbers → List ℕ
numbers_text p = decimal p.first ++ codes "," ++ decimal p.second ++ codes "," ++ decimal p.third ++ codes "," ++ decimal p.fourth
