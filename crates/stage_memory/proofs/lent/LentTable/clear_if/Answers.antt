-- `LentTable::clear_if` meets its contract.
-- Assumes nothing.
use Rattle.stage_memory.specs.Stage.{table_if}
use Rattle.stage_memory.proofs.lent.LentTable.clear_if.Goals as goal

pub returns-then-test-clause-zero : goal.returns-then-test-clause-zero
unfolding table_if
returns-then-test-clause-zero c = rw c.if-test.true c.clear.ensures.zero

pub returns-else-test-clause-zero : goal.returns-else-test-clause-zero
unfolding table_if
returns-else-test-clause-zero c = rw c.if-test.false
