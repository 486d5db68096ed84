-- `closure_marks::slots::list_slots` meets its contract.
-- Assumes nothing.
use mathlib.Core.Path.{◌∙◌}
use native.Mathlib.Omega.{arith}
use Rattle.closure_marks.proofs.MarkedSlots.{marks_fit, fits_not}
use Rattle.closure_marks.proofs.slots.list_slots.Goals as goal

pub returns-then-slots-s : goal.returns-then-slots-s
returns-then-slots-s c = (c.count_marks-s.ensures, fits_not _ _ (omega (arith, c.count_marks-s.ensures, c.if-slots-s.true)))

pub write_marked_slots-requires : goal.write_marked_slots-requires
write_marked_slots-requires c =
    let many = c.count_marks-s.ensures in (c.requires, omega (arith, many, c.if-slots-s.false), many)

pub returns : goal.returns
returns c =
    (c.count_marks-s.ensures, c.write_marked_slots.ensures ∙ marks_fit _ _ (omega (arith, c.count_marks-s.ensures, c.if-slots-s.false)))
