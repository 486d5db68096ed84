-- `left_of` meets its contract.
-- Assumes nothing.
use mathlib.Core.Path.{sym, ap, ◌∙◌}
use Rattle.budget.specs.Outcome.{left_of}
use Rattle.budget.proofs.left_of.Goals as goal

pub returns-in-Ok : goal.returns-in-Ok
unfolding left_of
returns-in-Ok c = sym (ap left_of c.in-Ok.is)

pub returns-in-Err : goal.returns-in-Err
unfolding left_of
returns-in-Err c = c.left.ensures ∙ sym (ap left_of c.in-Err.is)
