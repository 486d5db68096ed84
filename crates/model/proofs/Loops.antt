-- Loops that count up end at the first refusal.
-- Assumes nothing.
use mathlib.Core.Path.{◌≡◌}
use Prim.Native.Nat.{ℕ, zero, suc, ◌+◌}
use Rattle.model.specs.Charges.{Refusal, stop, Metered, continue, ◌>>◌, for_each}
use Rattle.model.specs.declared.VerifierResources.{VerifierResources}

-- once a part has refused, no later one is reached
pub each_stops : (f : ℕ → Metered (Unit {0})) (i more : ℕ) (budget : VerifierResources) (refusal : Refusal) (left : VerifierResources)
    → for_each f i budget ≡ stop refusal left → for_each f (more + i) budget ≡ stop refusal left
unfolding for_each ◌>>◌ continue
each_stops f i zero budget refusal left e = rw (native.Mathlib.Nat.zero-add i) e
each_stops f i (suc more) budget refusal left e = rw (native.Mathlib.Nat.suc-add more i) (rw (each_stops f i more budget refusal left e))
