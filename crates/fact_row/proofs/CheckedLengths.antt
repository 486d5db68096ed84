-- IndexCheck's fact from a length.
-- Assumes nothing.
use mathlib.Core.Path.{◌≡◌, refl}
use mathlib.Core.Bool.{Bool, true, false, cond}
use Prim.Native.Nat.{ℕ, zero, suc, ◌≤◌}
use native.Mathlib.Omega.{arith}
use lib.Dec.{leb}
use borrow.Author.Tests.{leb-true}
use Rattle.model.specs.Fact.{Fact, unknown, conflict, known, value}
use Rattle.model.specs.Transfer.{checked, checked_from}

-- ---- a fact that is one already

checked_by : (v : ℕ) (b : Bool) → leb v 65535 ≡ b → (checked_from (cond b (checked v) conflict) ≡ cond b (checked v) conflict) × (value (cond b (checked v) conflict) ≤ 65535)
unfolding checked_from checked value
checked_by v true e = (rw e, leb-true v 65535 e)
checked_by v false e = (refl, omega arith)

pub checked_twice : (f : Fact) → checked_from (checked_from f) ≡ checked_from f
unfolding checked_from
checked_twice unknown = refl
checked_twice conflict = refl
checked_twice (known zero v) = (checked_by v (leb v 65535) refl).0
checked_twice (known (suc k) v) = refl

-- its value is a length of 16 bits
pub checked_small : (f : Fact) → value (checked_from f) ≤ 65535
unfolding checked_from value
checked_small unknown = omega arith
checked_small conflict = omega arith
checked_small (known zero v) = (checked_by v (leb v 65535) refl).1
checked_small (known (suc k) v) = omega arith
