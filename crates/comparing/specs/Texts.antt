-- The text of an answer.
use Rattle.std.specs.Prelude.{ℕ, List, ◌++◌, codes}
use Rattle.std.specs.Fmt.{decimal}
use Rattle.algebra.specs.Texts.{numbers_text}
use Rattle.comparing.specs.declared.comparison.Comparison.{Comparison}
use Rattle.comparing.specs.declared.comparison.Comparison.TheVariants.{Same, Lengths, Differs}

-- that both are the same; both lengths; or the onset and the numbers of what is placed, and both counts
abbrev pub comparison_text : Comparison → List ℕ
comparison_text Same = codes "same"
comparison_text (Lengths m n) = codes "lengths " ++ decimal m ++ codes " " ++ decimal n
comparison_text (Differs x m n) = codes "place " ++ decimal x.onset ++ codes " " ++ numbers_text x.numbers ++ codes " " ++ decimal m ++ codes " " ++ decimal n
