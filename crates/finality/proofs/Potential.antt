-- The potential of the rows: an absent row 1 + 2 × s, a known fact 2, Unknown 1, Conflict 0. Whatever is added to the list lowers it.
-- Assumes nothing.
use mathlib.Core.Path.{◌≡◌}
use mathlib.Core.Bool.{Bool, true}
use mathlib.Core.List.{List, [], ◌∷◌}
use mathlib.Core.Option.{Option, none, some}
use Prim.Native.Nat.{ℕ, zero, suc, ◌+◌, ◌*◌, ◌≤◌, ◌<◌}
use native.Mathlib.Nat.{le_of_suc-le-suc, not-suc-le-zero}
use native.Mathlib.Omega.{arith}
use lib.ListN.{length, set, replicate}
use Rattle.model.specs.Fact.{Row}
use Rattle.model.specs.Run.{row_at, merged, news}
use Rattle.finality.proofs.Joins.{row_weight, row_weight-max, join_row-le, join_row-lt}

module _ (s : ℕ) where
  unfoldable pub cell_weight : Option Row → ℕ
  cell_weight none = 1 + 2 * s
  cell_weight (some r) = row_weight r

  unfoldable pub potential : List (Option Row) → ℕ
  potential [] = 0
  potential (o ∷ os) = cell_weight o + potential os

  -- a store exchanges one weight for another
  pub potential_set : (rows : List (Option Row)) (q : ℕ) (o : Option Row) → q < length rows
      → potential (set rows q o) + cell_weight (row_at rows q) ≡ potential rows + cell_weight o
  unfolding potential
  potential_set [] q o h = absurd (not-suc-le-zero h)
  potential_set (x ∷ xs) zero o h = omega arith
  potential_set (x ∷ xs) (suc q) o h = omega (arith, potential_set xs q o (le_of_suc-le-suc h))

  pub potential_replicate : (n : ℕ) → potential (replicate n none) ≡ n * (1 + 2 * s)
  unfolding potential cell_weight
  potential_replicate zero = omega arith
  potential_replicate (suc n) = omega (arith, potential_replicate n)

module _ (same : ℕ → ℕ → ℕ → ℕ → Bool) (s : ℕ) where
  -- a merge never raises the weight
  pub merged_le : (o : Option Row) (copy : Row) → length copy ≡ s → cell_weight s (some (merged same o copy)) ≤ cell_weight s o
  unfolding cell_weight merged
  merged_le none copy h = omega (arith, row_weight-max copy)
  merged_le (some old) copy h = join_row-le same old copy

  -- and lowers it where there is news
  pub merged_lt : (o : Option Row) (copy : Row) → length copy ≡ s → news same o copy ≡ true
      → cell_weight s (some (merged same o copy)) < cell_weight s o
  unfolding cell_weight merged news
  merged_lt none copy h e = omega (arith, row_weight-max copy)
  merged_lt (some old) copy h e = join_row-lt same old copy e
