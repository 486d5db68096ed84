-- `budget::metered` meets its contract: the two cases are the definition's.
-- Assumes nothing.
use mathlib.Core.Path.{sym, ap}
use Rattle.model.specs.Charges.{in_stage}
use Rattle.budget.specs.Outcome.{as_spent}
use Rattle.budget.proofs.metered.Goals as goal

pub returns-in-Ok : goal.returns-in-Ok
unfolding in_stage as_spent
returns-in-Ok c = sym (ap (in_stage c.args.stage c.args.resources) c.in-Ok.is)

pub returns-in-Err : goal.returns-in-Err
unfolding in_stage as_spent
returns-in-Err c = sym (ap (in_stage c.args.stage c.args.resources) c.in-Err.is)
