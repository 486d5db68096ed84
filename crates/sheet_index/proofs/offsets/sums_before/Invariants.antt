-- `sheet_index::offsets::sums_before` meets its contract. Assumes nothing.
use mathlib.Core.Path.{◌≡◌}
use Prim.Native.Nat.{ℕ, ◌<◌}
use Rattle.sheet_index.proofs.PrefixSums.{Summed}
use Rattle.sheet_index.proofs.offsets.sums_before.Given as goal

abbrev pub invariant-loop-i : goal.invariant-loop-i
invariant-loop-i g l = (f : ℕ → ℕ) → ((i n : ℕ) → i < l.count → goal.F-post g l.part i n → n ≡ f i) → Summed f l.initial.out l.out l.sum l.i
