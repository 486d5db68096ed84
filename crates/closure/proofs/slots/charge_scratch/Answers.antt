-- `closure::slots::charge_scratch` meets its contract: the first charge, then the second.
-- Assumes nothing.
use Rattle.std.proofs.Common.{refl, arith}
use Rattle.std.proofs.lemmas.Result.{err_from_is_err_and}
use Rattle.budget.proofs.Spending.{second_came, bytes_came}
use Rattle.closure_edges.proofs.EdgeCharges.{passed_on}
use Rattle.closure.specs.Closed.{scratch_charges}
use Rattle.closure.proofs.slots.charge_scratch.Goals as goal

pub returns-in_err-left : goal.returns-in_err-left
unfolding scratch_charges
returns-in_err-left c =
    let p = err_from_is_err_and c.from_residual.result c.from_residual.ensures.1 in
    rw (p.1, p.2) (passed_on _ _ c.args.resources _ (bytes_came _ _ c.args.resources c.charge_bytes.ensures c.in_err-left.ensures (omega arith)))

pub returns : goal.returns
unfolding scratch_charges
returns c =
    second_came _ _ c.args.resources c.metered.result (bytes_came _ _ c.args.resources c.charge_bytes.ensures c.metered.ensures (omega arith))
    c.metered-2.result c.in_ok-left.was (bytes_came _ c.metered-2.result _ c.charge_bytes-2.ensures c.metered-2.ensures refl)
