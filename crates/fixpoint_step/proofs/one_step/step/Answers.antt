-- `step` meets its contract: the copy goes through the transfer, then to each successor.
-- Assumes nothing.
use Rattle.fixpoint_step.proofs.OneStep.{transfer_asks, visiting, step_visits, step_copies}
use Rattle.fixpoint_step.proofs.one_step.step.Goals as goal

pub transfer_row-requires-clause-below : goal.transfer_row-requires-clause-below
transfer_row-requires-clause-below c = (transfer_asks c.args.analysis.now c.requires).0

pub transfer_row-requires-clause-readable_row : goal.transfer_row-requires-clause-readable_row
transfer_row-requires-clause-readable_row c = (transfer_asks c.args.analysis.now c.requires).1

pub visit_successors-requires : goal.visit_successors-requires
visit_successors-requires c = visiting c.args.analysis.now c.requires c.cell.ensures _ c.transfer_row.ensures

pub returns : goal.returns
returns c = (
  step_visits c.args.analysis.now c.requires c.cell.ensures _ c.transfer_row.ensures _ _ c.visit_successors.ensures,
  step_copies c.args.analysis.now c.requires c.cell.ensures _ c.transfer_row.ensures,
)
