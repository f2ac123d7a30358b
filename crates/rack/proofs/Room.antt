-- Room for the nodes of a score may be had where the nodes of a place are.
use Rattle.std.proofs.Common.{ℕ, ◌*◌, ◌<◌, ◌≤◌, List, length, mul-le-mul_right, arith}
use Rattle.rack.specs.Places.{number}
use Rattle.rack.proofs.Shelves.{segment_within}

pub fewer_of : {X : Type 0} (ns : List X) (s bound : ℕ) → 1023 ≤ length ns → length ns * s < bound → 1023 * s < bound
fewer_of ns s bound h l = omega (arith, mul-le-mul_right s h)

pub wide : {X : Type 0} (ns : List X) (p : ℕ) → p < number ns → 1023 ≤ length ns
wide ns p h = omega (arith, segment_within ns p h)

pub fewer_bytes : {X : Type 0} (ns : List X) (p s bound : ℕ) → p < number ns → length ns * s < bound → 1023 * s < bound
fewer_bytes ns p s bound h l = fewer_of ns s bound (wide ns p h) l
