-- `LentTable::clear` meets its contract.
-- Assumes nothing.
use Rattle.model.specs.Call.{zero_table}
use Rattle.stage_memory.proofs.RecordEqualities.{table_path}
use Rattle.stage_memory.proofs.lent.LentTable.clear.Goals as goal

pub returns-clause-zero : goal.returns-clause-zero
unfolding zero_table
returns-clause-zero c = table_path c.clear.ensures c.clear_rows.ensures.0 c.clear_rows.ensures.1 c.clear_rows.ensures.2
