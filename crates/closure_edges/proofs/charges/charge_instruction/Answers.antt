-- `closure_edges::charges::charge_instruction` meets its contract: the work, then the edges.
-- Assumes nothing.
use Rattle.std.proofs.lemmas.Result.{err_from_is_err_and}
use Rattle.model.specs.Dependencies.{charge_instruction}
use Rattle.budget.proofs.Spending.{second_came, work_came, edges_came}
use Rattle.closure_edges.proofs.EdgeCharges.{passed_on}
use Rattle.closure_edges.proofs.charges.charge_instruction.Goals as goal

pub returns-in_err-left : goal.returns-in_err-left
unfolding charge_instruction
returns-in_err-left c =
    let p = err_from_is_err_and c.from_residual.result c.from_residual.ensures.1 in
    rw (p.1, p.2) (passed_on _ _ c.args.resources _ (work_came 2 _ c.args.resources c.charge_work.ensures c.in_err-left.ensures c.copy_work.ensures))

pub returns : goal.returns
unfolding charge_instruction
returns c =
    second_came _ _ c.args.resources c.metered.result (work_came 2 _ c.args.resources c.charge_work.ensures c.metered.ensures c.copy_work.ensures)
    c.charge_edges.result c.in_ok-left.was (edges_came 2 c.charge_edges.result _ c.charge_edges.ensures c.edge_count.ensures)
