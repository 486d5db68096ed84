-- `room_for` meets its contract, test by test.
-- Assumes nothing.
use mathlib.Core.Path.{◌∙◌}
use native.Mathlib.Omega.{arith}
use borrow.Author.Tests.{le-leb, lt-leb}
use Rattle.stage_memory.specs.Room.{room_by}
use Rattle.stage_memory.proofs.RoomTests.{cells_fit}
use Rattle.stage_memory.proofs.room.room_for.Goals as goal

pub returns-then-slots-s : goal.returns-then-slots-s
unfolding room_by
returns-then-slots-s c = simp (lt-leb _ _ c.if-slots-s.true)

pub returns-then-row_kinds-s : goal.returns-then-row_kinds-s
unfolding room_by
returns-then-row_kinds-s c = simp (le-leb _ _ c.if-slots-s.false, lt-leb _ _ c.if-row_kinds-s.true)

pub returns-then-row_values-s : goal.returns-then-row_values-s
unfolding room_by
returns-then-row_values-s c = simp (le-leb _ _ c.if-slots-s.false, le-leb _ _ c.if-row_kinds-s.false, lt-leb _ _ c.if-row_values-s.true)

pub returns-then-present-n : goal.returns-then-present-n
unfolding room_by
returns-then-present-n c = simp (le-leb _ _ c.if-slots-s.false, le-leb _ _ c.if-row_kinds-s.false, le-leb _ _ c.if-row_values-s.false, lt-leb _ _ c.if-present-n.true)

pub overflow_mul-cells : goal.overflow_mul-cells
overflow_mul-cells c = omega (arith, cells_fit _ _ c.requires.0 c.requires.1)

pub returns-then-kinds-cells : goal.returns-then-kinds-cells
unfolding room_by
returns-then-kinds-cells c = simp (le-leb _ _ c.if-slots-s.false, le-leb _ _ c.if-row_kinds-s.false, le-leb _ _ c.if-row_values-s.false, le-leb _ _ c.if-present-n.false, lt-leb _ _ c.if-kinds-cells.true)

pub returns-then-values-cells : goal.returns-then-values-cells
unfolding room_by
returns-then-values-cells c = simp (le-leb _ _ c.if-slots-s.false, le-leb _ _ c.if-row_kinds-s.false, le-leb _ _ c.if-row_values-s.false, le-leb _ _ c.if-present-n.false, le-leb _ _ c.if-kinds-cells.false, lt-leb _ _ c.if-values-cells.true)

pub returns : goal.returns
unfolding room_by
returns c = c.work_list_room.ensures ∙ simp (le-leb _ _ c.if-slots-s.false, le-leb _ _ c.if-row_kinds-s.false, le-leb _ _ c.if-row_values-s.false, le-leb _ _ c.if-present-n.false, le-leb _ _ c.if-kinds-cells.false, le-leb _ _ c.if-values-cells.false)
