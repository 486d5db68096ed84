-- What a target adds to the successors, by the tests of the code.
-- Assumes nothing.
use mathlib.Core.Path.{◌≡◌, refl, sym, ap, ◌∙◌}
use mathlib.Core.Logic.{◌≢◌}
use mathlib.Core.List.{List, [], ◌∷◌, ◌++◌}
use Prim.Native.Nat.{ℕ, ◌≤◌, ◌<◌}
use native.Mathlib.Omega.{arith}
use borrow.Author.Tests.{eq-eqb, ne_eqb, lt-ltb, le-ltb}
use lib.IntN.{ℤ, pos, negsuc, nat_abs}
use lib.ListN.{get_or}
use lib.Signed.{mag}
use Rattle.std.specs.Int.{FitsUnsignedBits}
use Rattle.model.specs.Successors.{contains, push, push_valid, as_record}
use Rattle.model.specs.declared.InstructionSuccessors.{InstructionSuccessors}

module _ (s : InstructionSuccessors) (pc : ℕ) where
  -- an equal second one
  pub push_equal : s.len ≡ 1 → pc ≡ get_or s.pcs 0 0 → (targets : List ℕ) → s ≡ as_record targets → push targets pc ≡ targets
  unfolding push contains as_record
  push_equal one h [] e = absurd (omega (arith, one, ap (λ (x : InstructionSuccessors). x.len) e))
  push_equal one h (t ∷ ts) e =
      let q : pc ≡ t = h ∙ ap (λ (x : InstructionSuccessors). get_or x.pcs 0 0) e in
      rw (eq-eqb pc t q)

  -- the first one, and another second one
  pub push_new : s.len < 2 → (s.len ≡ 1 → pc ≢ get_or s.pcs 0 0) → (targets : List ℕ) → s ≡ as_record targets → push targets pc ≡ targets ++ (pc ∷ [])
  unfolding push contains as_record
  push_new room h [] e = refl
  push_new room h (t ∷ []) e =
      let q : get_or s.pcs 0 0 ≡ t = ap (λ (x : InstructionSuccessors). get_or x.pcs 0 0) e in
      rw (ne_eqb pc t (λ p. h (ap (λ (x : InstructionSuccessors). x.len) e) (p ∙ sym q)))
  push_new room h (t ∷ (u ∷ us)) e = absurd (omega (arith, room, ap (λ (x : InstructionSuccessors). x.len) e))

-- ---- "Targets outside 0..n−1 are dropped"

module _ (n : ℕ) (targets : List ℕ) where
  pub past_end : (z : ℤ) → n ≤ nat_abs z → push_valid n targets z ≡ targets
  unfolding push_valid
  past_end (pos k) h = rw (le-ltb k n h)
  past_end (negsuc k) h = refl

  pub inside : (k : ℕ) → k < n → push_valid n targets (pos k) ≡ push targets k
  unfolding push_valid
  inside k h = rw (lt-ltb k n h)

  -- ---- and of a target as std's conversion tells it

  pub target_inside : (z : ℤ) (pc : ℕ) → FitsUnsignedBits 64 z × pc ≡ nat_abs z → pc < n → push targets pc ≡ push_valid n targets z
  unfolding push_valid
  target_inside (pos k) pc (f, e) h = rw (lt-ltb k n (rw e at h), e)
  target_inside (negsuc k) pc (f, e) h = absurd f

  pub target_past_end : (z : ℤ) (pc : ℕ) → FitsUnsignedBits 64 z × pc ≡ nat_abs z → n ≤ pc → targets ≡ push_valid n targets z
  target_past_end z pc (f, e) h = sym (past_end z (rw e at h))

  pub target_negative : (z : ℤ) → (FitsUnsignedBits 64 z → ⊥) → mag z < 9223372036854775808 → targets ≡ push_valid n targets z
  unfolding push_valid
  target_negative (pos k) h f = absurd (h (omega (arith, f)))
  target_negative (negsuc k) h f = refl
