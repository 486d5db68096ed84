-- `closure_edges::charges::charge_flow` meets its contract: the first charge, then the second.
-- Assumes nothing.
use mathlib.Core.Path.{refl}
use native.Mathlib.Omega.{arith}
use Rattle.std.proofs.lemmas.Result.{err_from_is_err_and}
use Rattle.model.specs.Charges.{spend_work}
use Rattle.budget.proofs.Spending.{second_came, bytes_came, work_came}
use Rattle.sheet.proofs.SizeLimits.{limited}
use Rattle.closure_edges.proofs.EdgeCharges.{passed_on}
use Rattle.closure_edges.proofs.charges.charge_flow.Goals as goal

pub overflow_mul-n : goal.overflow_mul-n
overflow_mul-n c = omega (arith, (limited c.args.sheet.now.measured).code_count_is)

pub returns-in_err-left : goal.returns-in_err-left
returns-in_err-left c =
    let p = err_from_is_err_and c.from_residual.result c.from_residual.ensures.1 in
    rw (p.1, p.2) (passed_on _ (spend_work 1 c.args.sheet.now.sizes.code_count) c.args.resources _ (bytes_came 1 _ c.args.resources c.charge_bytes.ensures c.in_err-left.ensures refl))

pub returns : goal.returns
returns c =
    second_came _ (spend_work 1 c.args.sheet.now.sizes.code_count) c.args.resources c.metered.result (bytes_came 1 _ c.args.resources c.charge_bytes.ensures c.metered.ensures refl)
    _ c.in_ok-left.was (work_came 1 _ _ c.charge_work.ensures c.metered-2.ensures refl)
