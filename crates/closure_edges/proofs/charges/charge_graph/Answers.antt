-- `charge_graph` meets its contract: the flow graph's charges, then the dependencies'.
-- Assumes nothing.
use Rattle.std.proofs.lemmas.Result.{err_from_is_err_and}
use Rattle.budget.proofs.Spending.{second_came}
use Rattle.closure_edges.proofs.EdgeCharges.{flow_counted, passed_on}
use Rattle.closure_edges.specs.GraphCharges.{charge_graph}
use Rattle.closure_edges.proofs.charges.charge_graph.Goals as goal

pub returns-in_err-left : goal.returns-in_err-left
unfolding charge_graph
returns-in_err-left c =
    let p = err_from_is_err_and c.from_residual.result c.from_residual.ensures.1 in
    rw (p.1, p.2) (passed_on _ _ c.args.resources _ (flow_counted _ c.args.resources _ c.in_err-left.ensures c.args.sheet.now.measured))

pub returns : goal.returns
unfolding charge_graph
returns c =
    second_came _ _ c.args.resources c.charge_flow.result (flow_counted _ c.args.resources c.charge_flow.result c.charge_flow.ensures c.args.sheet.now.measured)
    c.charge_dependencies.result c.in_ok-left.was c.charge_dependencies.ensures
