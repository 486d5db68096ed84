-- Question 8, test by test.
-- Assumes nothing.
use mathlib.Core.Path.{◌≡◌, refl}
use mathlib.Core.Bool.{Bool, true, false, ◌||◌}
use Prim.Native.Nat.{ℕ, zero, suc, ◌+◌, ◌*◌, ◌≤◌}
use native.Mathlib.Nat.{mul-le-mul_right}
use native.Mathlib.Omega.{arith}
use lib.Dec.{leb, eqb, eqb-suc-zero}
use Rattle.model.specs.Call.{work_list_room}

-- n × s and n × (1 + 2 × s) are far from 2^64
pub cells_fit : (n s : ℕ) → n ≤ 4096 → s ≤ 65535 → (n * s ≤ 268431360) × (n * (1 + 2 * s) ≤ 536866816)
cells_fit n s h k = (omega (arith, mul-le-mul_right s h), omega (arith, mul-le-mul_right (1 + 2 * s) h))

-- ---- the work list's room

pub no_code : (n s list : ℕ) → n ≡ 0 → true ≡ work_list_room n s list
unfolding work_list_room
no_code n s list e = rw e

pub no_slots : (n s list : ℕ) → s ≡ 0 → true ≡ work_list_room n s list
unfolding work_list_room
no_slots n s list e = rw e (go (eqb n 0) (leb (n * (1 + 2 * 0)) list))
  where
    go : (b d : Bool) → true ≡ b || true || d
    go true d = refl
    go false d = refl

not_zero : (m : ℕ) → (m ≡ 0 → ⊥) → eqb m 0 ≡ false
not_zero zero h = absurd (h refl)
not_zero (suc m) h = eqb-suc-zero m

pub some_room : (n s list : ℕ) → (n ≡ 0 → ⊥) → (s ≡ 0 → ⊥) → leb (n * (1 + 2 * s)) list ≡ work_list_room n s list
unfolding work_list_room
some_room n s list h k = rw (not_zero n h, not_zero s k)
