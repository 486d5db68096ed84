-- `closure_edges::edges::copy_work` meets its contract.
-- Assumes nothing.
use mathlib.Core.Path.{sym}
use Rattle.model.specs.Opcode.{select}
use Rattle.model.specs.Dependencies.{copy_work, depends}
use Rattle.closure_edges.proofs.EdgeRows.{no_copy_work}
use Rattle.closure_edges.proofs.edges.copy_work.Goals as goal

pub returns-then-inst-eq-COPY_N : goal.returns-then-inst-eq-COPY_N
unfolding copy_work depends select
returns-then-inst-eq-COPY_N c = rw c.if-inst-eq-COPY_N.true

pub returns-else-inst-eq-COPY_N : goal.returns-else-inst-eq-COPY_N
unfolding copy_work
returns-else-inst-eq-COPY_N c = sym (no_copy_work c.args.inst c.if-inst-eq-COPY_N.false)
