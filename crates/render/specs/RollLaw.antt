-- The law of the roll. It stands here since the roll hands it on as a member.
use Rattle.std.specs.Prelude.{◌≡◌, ℕ, suc, Bool, true, false, cond, Some, None, Option, nat_lt, refl}
use Rattle.std.proofs.Common.{ap}
use Rattle.std.proofs.Math.Path.{fun_ext}
use Rattle.render.specs.Entries.{same_entry}
use Rattle.render.specs.Drawings.{InEitherOrder}
use Rattle.render.specs.Roll.{Held, with_entry, held_with, roll_entered}
use Rattle.render.specs.declared.entry.Entry.{Entry}

-- two tests in either order count the same
pub times_either : (s t : Bool) (n : ℕ) → cond t (suc (cond s (suc n) n)) (cond s (suc n) n) ≡ cond s (suc (cond t (suc n) n)) (cond t (suc n) n)
times_either true true n = refl
times_either true false n = refl
times_either false true n = refl
times_either false false n = refl

with_either : (h : Held) (a b : Entry) → with_entry b (with_entry a h) ≡ with_entry a (with_entry b h)
with_either h a b = ap (λ times. record { number = suc (suc h.number); times = times }) (fun_ext (λ x. times_either (same_entry x a) (same_entry x b) (h.times x)))

held_either : (capacity : ℕ) (h : Option Held) (a b : Entry) → held_with capacity b (held_with capacity a h) ≡ held_with capacity a (held_with capacity b h)
held_either capacity None a b = refl
held_either capacity (Some h) a b =
    let after : Bool → Entry → Option Held = λ room e. cond room (Some (with_entry e h)) None in
    elim (nat_lt h.number capacity) as (λ room. held_with capacity b (after room a) ≡ held_with capacity a (after room b)) [
      | true ↦ ap (λ g. cond (nat_lt (suc h.number) capacity) (Some g) None) (with_either h a b)
      | false ↦ refl
    ]

pub roll_either_order : InEitherOrder roll_entered
roll_either_order capacity p a b = ap (λ held. record { length = p.length; held = held }) (held_either capacity p.held a b)
