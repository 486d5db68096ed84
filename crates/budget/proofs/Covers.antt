-- What `cover` answers tells which way its test went.
-- Assumes nothing.
use Rattle.std.specs.Prelude.{cond, Ok, Err}
use mathlib.Core.Path.{◌≡◌, refl}
use mathlib.Core.Bool.{Bool, true, false}
use Prim.Native.Nat.{ℕ}
use native.Mathlib.Omega.{arith}
use Rattle.model.specs.declared.Shortage.{Shortage}

pub is_covered : (test : Bool) (rest : ℕ) (short : Shortage) {left : ℕ} → Ok left ≡ cond test (Ok rest) (Err short) → (test ≡ true) × (left ≡ rest)
is_covered true rest short e = (refl, cc)
is_covered false rest short e = let z : ◌≡◌ {A = ℕ} 0 1 = cc in absurd (omega arith)

pub is_short : (test : Bool) (rest : ℕ) (short : Shortage) {refused : Shortage} → Err refused ≡ cond test (Ok rest) (Err short) → (test ≡ false) × (refused ≡ short)
is_short true rest short e = let z : ◌≡◌ {A = ℕ} 0 1 = cc in absurd (omega arith)
is_short false rest short e = (refl, cc)
