-- `visit_successors` meets its contract: the first successor, then the second.
-- Assumes nothing.
use Rattle.fixpoint_step.proofs.TwoSuccessors.{following_code, first_asks, second_asks, both_visited}
use Rattle.fixpoint_step.proofs.successors.visit_successors.Goals as goal

pub instruction-requires : goal.instruction-requires
instruction-requires c = (following_code c.args.sheet.now.measured c.requires).1

pub instruction_successors-next-requires : goal.instruction_successors-next-requires
instruction_successors-next-requires c = following_code c.args.sheet.now.measured c.requires

pub visit_next-first-requires : goal.visit_next-first-requires
visit_next-first-requires c = first_asks c.args.sheet.now.measured c.requires c.instruction.ensures c.instruction_successors-next.ensures

pub visit_next-requires : goal.visit_next-requires
visit_next-requires c =
    second_asks c.args.sheet.now.measured c.requires c.instruction.ensures c.instruction_successors-next.ensures _ _ _ c.visit_next-first.ensures
    c.visit_next-first.auto.present c.visit_next-first.auto.kinds c.visit_next-first.auto.values

pub returns : goal.returns
returns c =
    both_visited c.args.sheet.now.measured c.requires c.instruction.ensures c.instruction_successors-next.ensures _ _ _ c.visit_next-first.ensures _ _ c.visit_next.ensures
