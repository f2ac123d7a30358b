-- The bytes of a normal file.
use Rattle.std.specs.Prelude.{ℕ, List}
use Rattle.algebra.specs.Kind.{KindModel}
use Rattle.algebra.specs.Score.{Score}
use Rattle.algebra.specs.Normal.{normal_after}
use Rattle.grammar.specs.Loads.{file_bytes}

-- The file of a score's normal form after a model.
abbrev pub normal_bytes : KindModel → Score → Score → List ℕ
normal_bytes K s model = file_bytes K (normal_after K s model)
