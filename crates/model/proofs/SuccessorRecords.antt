-- The record of the successors with one more.
-- Assumes nothing.
use mathlib.Core.Path.{◌≡◌, refl, ap}
use mathlib.Core.List.{List, [], ◌∷◌, ◌++◌}
use Prim.Native.Nat.{ℕ, ◌<◌}
use native.Mathlib.Omega.{arith}
use lib.ListN.{get_or}
use Rattle.model.specs.Successors.{as_record}
use Rattle.model.specs.declared.InstructionSuccessors.{InstructionSuccessors}

-- the first, and the second
pub with_first : (pcs : List ℕ) (len q : ℕ) → len ≡ 0 → (targets : List ℕ)
    → ◌≡◌ {A = InstructionSuccessors} record { pcs = pcs; len = len } (as_record targets)
    → ◌≡◌ {A = InstructionSuccessors} record { pcs = q ∷ 0 ∷ []; len = 1 } (as_record (targets ++ (q ∷ [])))
unfolding as_record
with_first pcs len q h [] e = refl
with_first pcs len q h (t ∷ ts) e = absurd (omega (arith, h, ap (λ (x : InstructionSuccessors). x.len) e))

pub with_second : (pcs : List ℕ) (len q : ℕ) → 0 < len → len < 2 → (targets : List ℕ)
    → ◌≡◌ {A = InstructionSuccessors} record { pcs = pcs; len = len } (as_record targets)
    → ◌≡◌ {A = InstructionSuccessors} record { pcs = get_or pcs 0 0 ∷ q ∷ []; len = 2 } (as_record (targets ++ (q ∷ [])))
unfolding as_record
with_second pcs len q m h [] e = absurd (omega (arith, m, ap (λ (x : InstructionSuccessors). x.len) e))
with_second pcs len q m h (t ∷ []) e = rw (ap (λ (x : InstructionSuccessors). x.pcs) e) refl
with_second pcs len q m h (t ∷ (u ∷ us)) e = absurd (omega (arith, h, ap (λ (x : InstructionSuccessors). x.len) e))
