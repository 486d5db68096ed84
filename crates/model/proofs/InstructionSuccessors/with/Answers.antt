-- `InstructionSuccessors::with` meets its contract: the record of a list with one more.
-- Assumes nothing.
use native.Mathlib.Omega.{arith}
use Rattle.model.proofs.SuccessorRecords.{with_first, with_second}
use Rattle.model.proofs.InstructionSuccessors.with.Goals as goal

pub returns-then-self-eq0 : goal.returns-then-self-eq0
returns-then-self-eq0 c = with_first c.args.self.pcs c.args.self.len c.args.pc c.if-self-eq0.true

pub returns-else-self-eq0 : goal.returns-else-self-eq0
returns-else-self-eq0 c = with_second c.args.self.pcs c.args.self.len c.args.pc (omega (arith, c.if-self-eq0.false)) c.requires
