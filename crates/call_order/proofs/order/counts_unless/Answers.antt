-- `counts_unless` meets its contract.
-- Assumes nothing.
use Rattle.call_order.specs.Answer.{counts_unless}
use Rattle.call_order.proofs.order.counts_unless.Goals as goal

pub returns-then-refused : goal.returns-then-refused
unfolding counts_unless
returns-then-refused c = rw c.if-refused.true

pub returns : goal.returns
unfolding counts_unless
returns c = rw c.if-refused.false
