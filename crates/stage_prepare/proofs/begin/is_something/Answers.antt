-- `is_something` meets its contract.
-- Assumes nothing.
use borrow.Author.Tests.{ne_eqb}
use Rattle.stage_prepare.specs.Prepare.{something}
use Rattle.stage_prepare.proofs.begin.is_something.Goals as goal

pub returns-then-n-eq0 : goal.returns-then-n-eq0
unfolding something
returns-then-n-eq0 c = rw c.if-n-eq0.true

pub returns : goal.returns
unfolding something
returns c = rw (ne_eqb _ _ c.if-n-eq0.false)
