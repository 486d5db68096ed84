-- `check_replay::calls::replay` meets its contract: one call after the other.
-- Assumes nothing.
use mathlib.Core.Path.{◌≡◌}
use mathlib.Core.Option.{some}
use Rattle.check_replay.specs.Calls.{replayed}
use Rattle.check_replay.proofs.calls.replay.Given as goal

abbrev pub invariant-loop-i : goal.invariant-loop-i
invariant-loop-i l = some l.called ≡ replayed l.head l.sheet l.i
