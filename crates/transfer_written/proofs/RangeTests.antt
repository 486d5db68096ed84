-- When a slot is in a range.
-- Assumes nothing.
use mathlib.Core.Path.{◌≡◌, refl, sym, ap, ◌∙◌}
use mathlib.Core.Bool.{Bool, true, false, ◌&&◌}
use Prim.Native.Nat.{ℕ, zero, suc, ◌+◌, ◌*◌, ◌-◌, ◌≤◌, ◌<◌, min}
use native.Mathlib.Nat.{mul-zero, mul-le-mul_left}
use native.Mathlib.Omega.{arith}
use lib.Dec.{leb, ltb}
use borrow.Author.Tests.{ltb-true, ltb-false, lt-ltb, le-ltb, le-leb, lt-leb}
use Rattle.model.specs.Written.{in_range}

-- a slot before the start
pub starts_before : (slot start count : ℕ) → slot < start → false ≡ in_range slot start count
unfolding in_range
starts_before slot start count h = rw (lt-leb start slot h)

-- one from the start on, by its offset
pub from_start : (slot start count : ℕ) → start ≤ slot → ltb (slot - start) count ≡ in_range slot start count
unfolding in_range
from_start slot start count h = rw (le-leb start slot h) (by (ltb (slot - start) count) refl)
  where
    by : (t : Bool) → ltb (slot - start) count ≡ t → t ≡ ltb slot (start + count)
    by true e = sym (lt-ltb slot (start + count) (omega (arith, ltb-true (slot - start) count e)))
    by false e = sym (le-ltb slot (start + count) (omega (arith, ltb-false (slot - start) count e)))

-- 65,536 elements reach as far as any more of them: to every slot, or nowhere
enough : (slot start len elem : ℕ) → slot < 65536 → 65536 ≤ len → in_range slot start (65536 * elem) ≡ in_range slot start (len * elem)
unfolding in_range
enough slot start len zero h k = rw (mul-zero len)
enough slot start len (suc elem) h k =
    ap (λ (t : Bool). leb start slot && t)
    (lt-ltb slot (start + 65536 * suc elem) (omega arith)
    ∙ sym (lt-ltb slot (start + len * suc elem) (omega (arith, mul-le-mul_left {m = 1} {n = suc elem} len (omega arith)))))

-- and so as far as all of them
pub span_reaches : (len elem slot start : ℕ) → slot < 65536 → in_range slot start (min len 65536 * elem) ≡ in_range slot start (len * elem)
span_reaches len elem slot start h = by (ltb len 65536) refl
  where
    by : (t : Bool) → ltb len 65536 ≡ t → in_range slot start (min len 65536 * elem) ≡ in_range slot start (len * elem)
    by true q = let few : min len 65536 ≡ len = omega (arith, ltb-true len 65536 q) in rw few
    by false q = let many : min len 65536 ≡ 65536 = omega (arith, ltb-false len 65536 q) in rw many (enough slot start len elem h (ltb-false len 65536 q))
