-- `sheet_questions::question_5::all_named` meets its contract. Assumes nothing.
use mathlib.Core.Path.{◌≡◌}
use mathlib.Core.Bool.{Bool}
use Prim.Native.Nat.{ℕ, ◌<◌}
use Rattle.model.specs.Count.{every}
use Rattle.sheet_questions.proofs.question_5.all_named.Given as goal

abbrev pub invariant-loop-i : goal.invariant-loop-i
invariant-loop-i g l = (f : ℕ → Bool) → ((i : ℕ) (b : Bool) → i < l.count → goal.F-post g l.named i b → b ≡ f i) → l.all ≡ every f l.i
