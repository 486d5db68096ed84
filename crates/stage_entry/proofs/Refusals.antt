-- An outcome that is a refusal, by what the code knows of it.
-- Assumes nothing.
use mathlib.Core.Path.{◌≡◌, refl, sym, ◌∙◌}
use mathlib.Core.Option.{Option, some}
use mathlib.Core.Bool.{true, false}
use native.Mathlib.Omega.{arith}
use Prim.Native.Nat.{ℕ}
use Rattle.std.specs.Prelude.{Ok, Err, is_err}
use Rattle.std.specs.Result.{IsErrAnd}
use Rattle.std.proofs.lemmas.Result.{err_from_is_err_and}
use Rattle.model.specs.declared.VerifierResources.{VerifierResources}
use Rattle.budget.specs.Outcome.{Outcome, Leaves, leaves}
use Rattle.budget.specs.declared.Refused.{Refused}
use Rattle.budget.proofs.Outcomes.{NotCovered}

-- a refusal is not covered
pub refused_not_covered : {outcome : Outcome} {refused : Refused} → outcome ≡ Err refused → NotCovered outcome
refused_not_covered e left h = let z : ◌≡◌ {A = ℕ} 0 1 = cc in omega arith

-- what `?` returns of a refusal
pub refused_again : {outcome : Outcome} (again : Outcome) {refused : Refused} → outcome ≡ Err refused → IsErrAnd again (λ r. r ≡ refused) → again ≡ outcome
refused_again again e h = let p = err_from_is_err_and again h in p.1 ∙ rw p.2 (sym e)

-- the same, with what is left in memory
pub leaves_again : {M : Type 0} {memory : M} {expected : Option (Leaves M)} {outcome : Outcome} (again : Outcome) {refused : Refused} → outcome ≡ Err refused
    → IsErrAnd again (λ r. r ≡ refused) → some (leaves outcome memory) ≡ expected → some (leaves again memory) ≡ expected
leaves_again again e h is = rw (refused_again again e h) is

-- by the test `is_err`
pub err_not_covered : {outcome : Outcome} → is_err outcome ≡ true → NotCovered outcome
err_not_covered e left h = let z : ◌≡◌ {A = ℕ} 0 1 = cc in omega arith

pub ok_covered : (outcome : Outcome) → is_err outcome ≡ false → (left : VerifierResources) × (outcome ≡ Ok left)
ok_covered (Ok left) e = (left, refl)
ok_covered (Err refused) e = let z : ◌≡◌ {A = ℕ} 0 1 = cc in absurd (omega arith)
