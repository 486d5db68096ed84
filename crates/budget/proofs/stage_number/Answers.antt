-- `stage_number` meets its contract.
-- Assumes nothing.
use Rattle.model.specs.Closure.{stage_number}
use Rattle.budget.proofs.stage_number.Goals as goal

pub returns-in-Constant : goal.returns-in-Constant
unfolding stage_number
returns-in-Constant c = rw c.in-Constant.is

pub returns-in-IndexCheck : goal.returns-in-IndexCheck
unfolding stage_number
returns-in-IndexCheck c = rw c.in-IndexCheck.is

pub returns-in-Container : goal.returns-in-Container
unfolding stage_number
returns-in-Container c = rw c.in-Container.is
