-- A loop that keeps whether f holds of all numbers passed.
-- Assumes nothing.
use mathlib.Core.Path.{◌≡◌, refl}
use mathlib.Core.Bool.{Bool, true, ◌&&◌}
use Prim.Native.Nat.{ℕ, ◌+◌}
use native.Mathlib.Numerals.{add-one}
use Rattle.model.specs.Count.{every}

pub every_none : (f : ℕ → Bool) → true ≡ every f 0
unfolding every
every_none f = refl

pub every_more : (f : ℕ → Bool) (i : ℕ) {all one : Bool} → all ≡ every f i → one ≡ f i → (all && one) ≡ every f (i + 1)
unfolding every
every_more f i p q = rw (add-one, p, q)
