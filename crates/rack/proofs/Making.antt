-- A list with room for one score is one still after a score is made in it.
use Rattle.std.proofs.Common.{◌≡◌, ℕ, ◌≤◌, [], length, Some, None, Ok, Err, Option, Result, ap, arith}
use Rattle.std.proofs.lemmas.List.{length-append}
use Rattle.algebra.specs.Kind.{KindModel}
use Rattle.algebra.specs.Score.{Score, nodes}
use Rattle.algebra.specs.Layout.{preorder}
use Rattle.nodes.specs.Lists.{Listed, Roomy}
use Rattle.nodes.proofs.Parts.{length_preorder}
use Rattle.refusals.specs.declared.refusal.Refusal.{Refusal}
use Rattle.building.specs.declared.size.Size.{Size}
use Rattle.building.specs.Rows.{laid, score_in}
use Rattle.building.specs.Sizes.{sized}
use Rattle.building.specs.Steps.{stepped_size}
use Rattle.building.proofs.Sizes.{accepted}

-- what is made is small where it is not refused
pub sized_few : (K : KindModel) (s : Score) (size : Size) → Ok size ≡ sized K s → nodes s ≤ 1023
sized_few K s size e = (accepted K s size e).fits.few_nodes

pub stepped_few : (K : KindModel) (node : ℕ) (o : Option Score) (size : Size) → Ok size ≡ stepped_size K node o → nodes (score_in o) ≤ 1023
stepped_few K node None size e = absurd (grind arith)
stepped_few K node (Some s) size e = sized_few K s size e

pub laid_roomy : (l : Listed) (s : Score) (answer r : Result Size Refusal) → Roomy l → l.items ≡ [] → answer ≡ r → ((size : Size) → Ok size ≡ r → nodes s ≤ 1023) → Roomy (laid answer l s)
laid_roomy l s (Ok size) r roomy none is few =
    record { room_is = roomy.room_is; within = omega (arith, length-append l.items (preorder s), ap length none, length_preorder s, few size is) }
laid_roomy l s (Err e) r roomy none is few = roomy
