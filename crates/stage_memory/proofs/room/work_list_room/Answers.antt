-- `work_list_room` meets its contract.
-- Assumes nothing.
use native.Mathlib.Omega.{arith}
use Rattle.stage_memory.proofs.RoomTests.{cells_fit, no_code, no_slots, some_room}
use Rattle.stage_memory.proofs.room.work_list_room.Goals as goal

pub returns-then-n-eq0 : goal.returns-then-n-eq0
returns-then-n-eq0 c = no_code _ _ _ c.if-n-eq0.true

pub returns-then-s-eq0 : goal.returns-then-s-eq0
returns-then-s-eq0 c = no_slots _ _ _ c.if-s-eq0.true

pub overflow_mul-result-2 : goal.overflow_mul-result-2
overflow_mul-result-2 c = omega (arith, cells_fit _ _ c.requires.0 c.requires.1)

pub returns : goal.returns
returns c = some_room _ _ _ c.if-n-eq0.false c.if-s-eq0.false
