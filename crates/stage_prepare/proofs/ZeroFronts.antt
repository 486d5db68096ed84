-- The first places of a buffer of zeros: what is left of it when they are cleared, or filled.
-- Assumes nothing.
use mathlib.Core.Path.{◌≡◌, refl, sym, ap, ap₂, ◌∙◌}
use mathlib.Core.List.{List, ◌∷◌, ◌++◌}
use Prim.Native.Nat.{ℕ, zero, suc, ◌-◌, ◌≤◌}
use native.Mathlib.Nat.{le_of_suc-le-suc, not-suc-le-zero, sub-zero, suc-sub-suc}
use native.Mathlib.Omega.{arith}
use lib.ListN.{length, replicate, take, drop, take-append-drop, length-append, length-drop, length-replicate}
use Rattle.model.specs.Call.{zeros, filled}
use Rattle.finality.proofs.Lengths.{zeros_length, zeros_same}

take_replicate : (k m : ℕ) → k ≤ m → take {A = ℕ} k (replicate m 0) ≡ replicate k 0
take_replicate zero m h = refl
take_replicate (suc k) zero h = absurd (not-suc-le-zero h)
take_replicate (suc k) (suc m) h = ap {B = List ℕ} (λ xs. 0 ∷ xs) (take_replicate k m (le_of_suc-le-suc h))

drop_replicate : (k m : ℕ) → k ≤ m → drop {A = ℕ} k (replicate m 0) ≡ replicate (m - k) 0
drop_replicate zero m h = rw (sub-zero m) refl
drop_replicate (suc k) zero h = absurd (not-suc-le-zero h)
drop_replicate (suc k) (suc m) h = rw (suc-sub-suc m k) (drop_replicate k m (le_of_suc-le-suc h))

module _ (k : ℕ) (old : List ℕ) (h : k ≤ length old) (z : old ≡ zeros old) where
  pub take_zero : take k old ≡ replicate k 0
  unfolding zeros
  take_zero = ap (take k) z ∙ take_replicate k (length old) h

  pub drop_zero : drop k old ≡ replicate (length old - k) 0
  unfolding zeros
  drop_zero = ap (drop k) z ∙ drop_replicate k (length old) h

  -- cleared
  pub front_cleared : {part : List ℕ} → part ≡ replicate k 0 → part ++ drop k old ≡ zeros old
  front_cleared e = ap (λ (p : List ℕ). p ++ drop k old) (e ∙ sym take_zero) ∙ take-append-drop k old ∙ z

  -- filled
  pub front_filled : {part table : List ℕ} → part ≡ table → length part ≡ k → part ++ drop k old ≡ filled table old
  unfolding filled
  front_filled {part} {table} e l = ap₂ ◌++◌ e (drop_zero ∙ ap (λ (m : ℕ). replicate (length old - m) 0) (sym l ∙ ap length e))

-- a part that is as long as what it stands for
pub part_length : (k : ℕ) (old : List ℕ) → k ≤ length old → (part : List ℕ) → length (part ++ drop k old) ≡ length old → length part ≡ k
part_length k old h part e = omega (arith, length-append part (drop k old), length-drop k old)

-- zeros at the front of zeros
pub zero_filled : (k : ℕ) (old : List ℕ) → k ≤ length old → old ≡ zeros old → {table : List ℕ} → table ≡ replicate k 0 → old ≡ filled table old
zero_filled k old h z e =
    z ∙ sym (front_cleared k old h z {part = replicate k 0} refl) ∙ front_filled k old h z (sym e) (length-replicate {A = ℕ} k 0)

-- what was cleared is zero
pub cleared_zero : (ys : List ℕ) {xs : List ℕ} → xs ≡ zeros ys → xs ≡ zeros xs
cleared_zero ys {xs} e = e ∙ zeros_same ys xs (sym (ap length e ∙ zeros_length ys))
