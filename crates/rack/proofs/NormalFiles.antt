-- The bytes of normal files tell whether a chain leads from one score to another.
use Rattle.std.proofs.Common.{◌≡◌, ◌↔◌, Ok, sym, ap, subst}
use Rattle.algebra.specs.Kind.{KindModel, KindLaws}
use Rattle.algebra.specs.Score.{Score}
use Rattle.algebra.specs.Rules.{Chain}
use Rattle.algebra.specs.Normal.{normal_after}
use Rattle.algebra.specs.Limits.{Holdable}
use Rattle.algebra.proofs.Complete.{after_reached, both_after_decide}
use Rattle.algebra.proofs.Legal.{chain_legal}
use Rattle.algebra.proofs.Sizes.{normal_fits}
use Rattle.grammar.specs.Loads.{Loads, file_bytes}
use Rattle.grammar.proofs.Standing.{one_answer, written_back}
use Rattle.normal_file.specs.Bytes.{normal_bytes}
use Rattle.rack.specs.Calls.{score_read}

module _ (K : KindModel) (laws : KindLaws K) where
  -- a file is that of one score
  same_score : (s t : Score) → Holdable K s → Holdable K t → file_bytes K s ≡ file_bytes K t → s ≡ t
  same_score s t h k e = ap score_read (one_answer K (file_bytes K s) (Ok s) (Ok t) (written_back K laws s h) (subst (λ b. Loads K b (Ok t)) (sym e) (written_back K laws t k)))

  -- a normal form may be held where the score may
  after_holdable : (s model : Score) → Holdable K s → Holdable K (normal_after K s model)
  after_holdable s model h = record { legal = chain_legal K s (normal_after K s model) h.legal (after_reached K s model); fits = (normal_fits K s model).1 h.fits }

  pub bytes_decide : (s model : Score) → Holdable K s → Holdable K model → (normal_bytes K s model ≡ normal_bytes K model model) ↔ Chain K s model
  bytes_decide s model h k = (
    (λ e. (both_after_decide K s model).0 (same_score (normal_after K s model) (normal_after K model model) (after_holdable s model h) (after_holdable model model k) e)),
    λ c. ap (file_bytes K) ((both_after_decide K s model).1 c),
  )
