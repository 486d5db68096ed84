-- `sheet_questions::sums::total` meets its contract. Assumes nothing.
use mathlib.Core.Path.{◌≡◌}
use Prim.Native.Nat.{ℕ, ◌*◌, ◌≤◌, ◌<◌}
use Rattle.model.specs.Count.{sum}
use Rattle.sheet_questions.proofs.sums.total.Given as goal

abbrev pub invariant-loop-i : goal.invariant-loop-i
invariant-loop-i g l = record {
  most : l.sum ≤ l.i * 65535;
  is : (f : ℕ → ℕ) → ((i n : ℕ) → i < l.count → goal.F-post g l.part i n → n ≡ f i) → l.sum ≡ sum f l.i;
}
