-- `conclude_run` meets its contract: the two cases are the definitions'.
-- Assumes nothing.
use mathlib.Core.Path.{refl}
use Rattle.stage_memory.specs.Stage.{counts_if}
use Rattle.stage.proofs.conclusion.conclude_run.Goals as goal

pub returns-in-Ok : goal.returns-in-Ok
unfolding counts_if
returns-in-Ok c = rw c.in-Ok.is (refl, refl, refl)

pub returns-in-Err : goal.returns-in-Err
unfolding counts_if
returns-in-Err c = rw c.in-Err.is (refl, refl, c.clear.ensures)
