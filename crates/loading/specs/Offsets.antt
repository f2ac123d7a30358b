-- Refusals at an offset.
use Rattle.std.specs.Prelude.{◌≡◌, ℕ, Some, Option}
use Rattle.refusals.specs.declared.refusal.Refusal.{Refusal}

-- The offset that was looked for is there, and the refusal has it.
abbrev pub RefusedAt : Option ℕ → (ℕ → Refusal) → Refusal → Type 0
RefusedAt found refusal e = (offset : ℕ) × (found ≡ Some offset) × (e ≡ refusal offset)
