-- `answer_of` meets its contract.
-- Assumes nothing.
use Rattle.call_order.specs.Answer.{answer_of}
use Rattle.call_order.proofs.order.answer_of.Goals as goal

pub returns-in-Ok : goal.returns-in-Ok
unfolding answer_of
returns-in-Ok c = rw c.in-Ok.is

pub returns-in-OverBudget : goal.returns-in-OverBudget
unfolding answer_of
returns-in-OverBudget c = rw (c.in-Err.is, c.in-OverBudget.is)

pub returns-in-NoRoom : goal.returns-in-NoRoom
unfolding answer_of
returns-in-NoRoom c = rw (c.in-Err.is, c.in-NoRoom.is)
