-- `sheet_questions::limits::within_limits` meets its contract. Assumes nothing.
use mathlib.Core.Path.{refl, sym}
use Rattle.model.specs.Sheet.{limits}
use Rattle.sheet_questions.proofs.LimitLoop.{within_passed, within_failed, within_all}
use native.Mathlib.Omega.{arith}
use Rattle.sheet_questions.proofs.limits.within_limits.Goals as goal

pub loop-j-init : goal.loop-j-init
loop-j-init c = refl

pub returns-then-j-size_at : goal.returns-then-j-size_at
unfolding limits
returns-then-j-size_at c = sym (within_failed _ _ limits c.loop-j.invariant c.loop-j-test.true (rw (← c.size_at.ensures.0) c.if-j-size_at.true))

pub loop-j-preserved : goal.loop-j-preserved
unfolding limits
loop-j-preserved c = within_passed _ _ limits c.loop-j.invariant c.loop-j-test.true (rw (← c.size_at.ensures.0) c.if-j-size_at.false)

pub returns : goal.returns
unfolding limits
returns c = sym (within_all _ _ limits c.loop-j.invariant (omega arith))
