-- Equal charges in a row: all are covered, or the first that finds too little is refused and what it found is left.
-- Assumes nothing.
use mathlib.Core.Path.{◌≡◌, refl, ap, ◌∙◌}
use mathlib.Core.Bool.{Bool, true, false}
use Prim.Native.Nat.{ℕ, zero, suc, ◌+◌, ◌*◌, ◌-◌, ◌≤◌, ◌<◌}
use native.Mathlib.Omega.{arith}
use lib.Dec.{ltb}
use borrow.Author.Tests.{le-leb, lt-leb, ltb-true, ltb-false}
use Rattle.model.specs.Charges.{over_budget, Spent, ok, stop, spend_bytes, for_each, charges_compute}
use Rattle.model.specs.declared.VerifierResources.{VerifierResources}

abbrev left : ℕ → ℕ → VerifierResources
left bytes work = record { bytes = bytes; work = work }

module _ (stage work : ℕ) where
  -- count charges of 4 bytes, made from b bytes
  abbrev charged : ℕ → ℕ → Spent (Unit {0})
  charged count b = for_each (λ i. spend_bytes stage 4) count (left b work)

  one_covered : (b : ℕ) → 4 ≤ b → spend_bytes stage 4 (left b work) ≡ ok tt (left (b - 4) work)
  unfolding charges_compute
  one_covered b h = rw (le-leb 4 b h)

  one_refused : (b : ℕ) → b < 4 → spend_bytes stage 4 (left b work) ≡ stop (over_budget stage 4 b) (left b work)
  unfolding charges_compute
  one_refused b h = rw (lt-leb 4 b h)

  pub edges_covered : (count b : ℕ) → 4 * count ≤ b → charged count b ≡ ok tt (left (b - 4 * count) work)
  unfolding charges_compute
  edges_covered zero b h = ap (λ (k : ℕ). ok tt (left k work)) (omega arith)
  edges_covered (suc i) b h =
      rw (edges_covered i b (omega arith)) (one_covered (b - 4 * i) (omega arith) ∙ ap (λ (k : ℕ). ok tt (left k work)) (omega arith))

  pub edges_refused : (count q r b : ℕ) → q < count → r < 4 → b ≡ 4 * q + r → charged count b ≡ stop (over_budget stage 4 r) (left r work)
  unfolding charges_compute
  edges_refused zero q r b h k e = absurd (omega arith)
  edges_refused (suc i) q r b h k e = go (ltb q i) refl (λ l. edges_refused i q r b l k e)
    where
      go : (t : Bool) → ltb q i ≡ t → (q < i → charged i b ≡ stop (over_budget stage 4 r) (left r work))
          → charged (suc i) b ≡ stop (over_budget stage 4 r) (left r work)
      go true p before = rw (before (ltb-true q i p))
      go false p before =
          let rest : b - 4 * i ≡ r = omega (arith, ltb-false q i p) in
          rw (edges_covered i b (omega (arith, ltb-false q i p)), rest) (one_refused r k)
