-- `count_tracked` meets its contract.
-- Assumes nothing.
use native.Mathlib.Omega.{arith}
use Rattle.export_loader.proofs.RoomAnswers.{counted_slots}
use Rattle.export_loader.proofs.room.count_tracked.Goals as goal

pub returns-in-Ok-clause-counts : goal.returns-in-Ok-clause-counts
returns-in-Ok-clause-counts c = rw c.in-Ok.is at (counted_slots _ _ _ _ c.tracked_slots.ensures.closes c.args.sheet.now.measured (omega arith) (omega arith))

pub returns-in-Err-clause-counts : goal.returns-in-Err-clause-counts
returns-in-Err-clause-counts c = rw c.in-Err.is at (counted_slots _ _ _ _ c.tracked_slots.ensures.closes c.args.sheet.now.measured (omega arith) (omega arith))
