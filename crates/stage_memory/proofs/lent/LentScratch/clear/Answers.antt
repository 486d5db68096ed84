-- `LentScratch::clear` meets its contract.
-- Assumes nothing.
use Rattle.stage_memory.specs.Stage.{zero_scratch}
use Rattle.stage_memory.proofs.RecordEqualities.{scratch_path}
use Rattle.stage_memory.proofs.lent.LentScratch.clear.Goals as goal

pub returns-clause-zero : goal.returns-clause-zero
unfolding zero_scratch
returns-clause-zero c = scratch_path c.clear.ensures c.clear-2.ensures c.clear_row.ensures.0 c.clear_row.ensures.1 c.clear-3.ensures
