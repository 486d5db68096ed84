-- A loop that writes, of each number below n, the sum of f before it.
-- Assumes nothing.
use mathlib.Core.Path.{◌≡◌, sym}
use mathlib.Core.List.{List}
use Prim.Native.Nat.{ℕ, ◌+◌, ◌<◌}
use native.Mathlib.Omega.{arith}
use lib.ListN.{length, set}
use Rattle.model.specs.Count.{sum}
use Rattle.memory.proofs.StoreLoops.{Turned, turned_none, turn}
use Rattle.sheet.proofs.Sums.{sum_none, sum_more}

-- after i turns
pub record Summed (f : ℕ → ℕ) (old out : List ℕ) (total i : ℕ) : Type 0 where
  pub turned : Turned (sum f) old out i
  pub is : total ≡ sum f i

pub summed_none : (f : ℕ → ℕ) (old : List ℕ) → Summed f old old 0 0
summed_none f old = record { turned = turned_none (sum f) old; is = sym (sum_none f) }

pub summed_more : {f : ℕ → ℕ} {old out : List ℕ} {total i v : ℕ} → Summed f old out total i → i < length out → v ≡ f i → Summed f old (set out i total) (total + v) (i + 1)
summed_more {f} {old} {out} {total} {i} {v} s h e = record { turned = turn s.turned h s.is; is = omega (arith, sum_more f i, s.is) }
