-- `Refused::left` meets its contract.
-- Assumes nothing.
use mathlib.Core.Path.{sym, ap}
use Rattle.budget.specs.Outcome.{left_after}
use Rattle.budget.proofs.Refused.left.Goals as goal

pub returns-in-OverBudget : goal.returns-in-OverBudget
unfolding left_after
returns-in-OverBudget c = sym (ap left_after c.in-OverBudget.is)

pub returns-in-NoRoom : goal.returns-in-NoRoom
unfolding left_after
returns-in-NoRoom c = sym (ap left_after c.in-NoRoom.is)
