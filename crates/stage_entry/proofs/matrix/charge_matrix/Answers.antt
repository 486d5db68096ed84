-- `stage_entry::matrix::charge_matrix` meets its contract: one charge. Assumes nothing.
use mathlib.Core.Path.{ap, ◌∙◌}
use Prim.Native.Nat.{ℕ, ◌*◌}
use native.Mathlib.Nat.{mul-le-mul}
use native.Mathlib.Omega.{arith}
use Rattle.model.specs.Charges.{in_stage}
use Rattle.budget.proofs.Spending.{bytes_came}
use Rattle.stage_entry.proofs.matrix.charge_matrix.Goals as goal

pub overflow_mul-amount : goal.overflow_mul-amount
overflow_mul-amount c = omega (arith, mul-le-mul c.requires.0 c.requires.1)

pub overflow_mul-amount-2 : goal.overflow_mul-amount-2
overflow_mul-amount-2 c = omega (arith, mul-le-mul (mul-le-mul c.requires.0 c.requires.1) c.fact_bytes.ensures.1)

pub returns : goal.returns
returns c =
    let a = c.args in
    bytes_came _ c.metered.result a.resources c.charge_bytes.ensures
    (c.metered.ensures ∙ ap (λ (k : ℕ). in_stage k a.resources c.charge_bytes.result) c.stage_number.ensures)
    (ap (λ (k : ℕ). a.n * a.s * k) c.fact_bytes.ensures.0)
