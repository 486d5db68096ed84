-- `join_into` meets its contract: the copy where there is no row, the join where there is one.
-- Assumes nothing.
use Rattle.fixpoint_step.proofs.VisitedTables.{visiting_row, visit_absent, visit_present}
use Rattle.fixpoint_step.proofs.visits.join_into.Goals as goal

pub join_row-requires-clause-row_lies : goal.join_row-requires-clause-row_lies
join_row-requires-clause-row_lies c = visiting_row c.requires c.if-present-q-eq0.false

pub returns-then-present-q-eq0 : goal.returns-then-present-q-eq0
returns-then-present-q-eq0 c =
    visit_absent _ _ _ _ _ c.if-present-q-eq0.true c.copy.ensures c.copy-then-present-q-eq0.ensures

pub returns-else-present-q-eq0 : goal.returns-else-present-q-eq0
returns-else-present-q-eq0 c = visit_present _ _ _ _ _ _ c.if-present-q-eq0.false c.join_row.ensures
