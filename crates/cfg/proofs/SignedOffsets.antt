-- Signed offsets at any width, and their sums with an instruction's number at 64 bits.
-- Assumes nothing.
use mathlib.Core.Path.{◌≡◌, refl, ◌∙◌}
use mathlib.Core.Bool.{Bool, true, false, cond}
use Prim.Native.Nat.{ℕ, suc, ◌-◌, ◌^◌, ◌<◌}
use native.Mathlib.Omega.{arith}
use lib.Dec.{ltb}
use lib.IntN.{ℤ, pos, negsuc, ◌+ℤ◌}
use lib.Signed.{mag}
use mir.Syntax.{Width, w64}
use mir.Val.{SFits, sel, to_z, of_z, bits, hbits}
use mir.ValLaws.{to_z_pos, to_z-of_z}

sel_cond : (b : Bool) (y z : ℤ) → sel b y z ≡ cond b y z
sel_cond true y z = refl
sel_cond false y z = refl

-- the bits x, read as signed, pass from call to call as bits
pub read_signed : (w : Width) (x : ℕ) (r : ℤ) → mag r < 2 ^ hbits w → r ≡ to_z w x
    → to_z w (of_z w r) ≡ cond (ltb x (2 ^ hbits w)) (pos x) (negsuc (2 ^ bits w - suc x))
read_signed w x r f e =
    to_z-of_z w r record { sfits = f } ∙ e ∙ sel_cond (ltb x (2 ^ hbits w)) (pos x) (negsuc (2 ^ bits w - suc x))

-- ---- the sum of a small number and an offset of the width w

plain_fits : (p : ℕ) (z : ℤ) → p < 65536 → mag z < 4294967296 → SFits w64 (pos p +ℤ z)
plain_fits p (pos k) h l = record { sfits = omega arith }
plain_fits p (negsuc k) h l = by (ltb p (suc k))
  where
    by : (b : Bool) → SFits w64 (cond b (negsuc (suc k - suc p)) (pos (p - suc k)))
    by true = record { sfits = omega arith }
    by false = record { sfits = omega arith }

module _ (w : Width) (p : ℕ) (z : ℤ) (f : SFits w z) (hp : p < 65536) (hz : mag z < 4294967296) where
  abbrev sum : ℤ
  sum = to_z w64 p +ℤ to_z w64 (of_z w64 (to_z w (of_z w z)))

  wide_fits : SFits w64 (to_z w (of_z w z))
  wide_fits = rw (to_z-of_z w z f) record { sfits = omega arith }

  plain : sum ≡ pos p +ℤ z
  plain = rw (to_z_pos w64 p (omega arith), to_z-of_z w64 (to_z w (of_z w z)) wide_fits, to_z-of_z w z f)

  pub sum_fits : SFits w64 sum
  sum_fits = rw plain (plain_fits p z hp hz)

  pub sum_is : to_z w64 (of_z w64 sum) ≡ pos p +ℤ z
  sum_is = to_z-of_z w64 sum sum_fits ∙ plain
