-- `closure::reach` meets its contract.
-- Assumes nothing.
use Rattle.std.proofs.Common.{arith}
use Rattle.closure.proofs.FollowEdges.{copy_n_reach, other_reach}
use Rattle.closure.proofs.follow.reach.Goals as goal

pub returns-then-inst-eq-COPY_N : goal.returns-then-inst-eq-COPY_N
returns-then-inst-eq-COPY_N c = (omega arith, copy_n_reach c.args.inst c.if-inst-eq-COPY_N.true)

pub returns-else-inst-eq-COPY_N : goal.returns-else-inst-eq-COPY_N
returns-else-inst-eq-COPY_N c = (omega arith, other_reach c.args.inst c.if-inst-eq-COPY_N.false)
