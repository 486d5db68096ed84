-- `check_replay::calls::replay` meets its contract: one call after the other.
-- Assumes nothing.
use mathlib.Core.Path.{◌≡◌}
use native.Mathlib.Omega.{arith}
use Rattle.check_replay.proofs.CallsInTurn.{first, again}
use Rattle.check_replay.proofs.calls.replay.Goals as goal

pub loop-i-init : goal.loop-i-init
loop-i-init c = first _ _ _ c.call-called.ensures

pub loop-i-preserved : goal.loop-i-preserved
loop-i-preserved c = again _ _ _ c.loop-i.called.answer _ c.loop-i.invariant c.call.ensures

pub returns : goal.returns
returns c =
    let e : c.loop-i.i ≡ 18 = omega (arith, c.loop-i-test.false, c.loop-i.auto.i-end) in
    rw e at c.loop-i.invariant
