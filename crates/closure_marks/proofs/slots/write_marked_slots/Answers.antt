-- `closure_marks::slots::write_marked_slots` meets its contract: the marked slots passed are written.
-- Assumes nothing.
use native.Mathlib.Omega.{arith}
use Rattle.closure_marks.proofs.MarkedSlots.{marks_listed_none, writing_inside, writing_within, writing_room, marks_listed_more, writing_all}
use Rattle.closure_marks.proofs.slots.write_marked_slots.Goals as goal

pub loop-at-init : goal.loop-at-init
loop-at-init c = marks_listed_none _ _

pub bounds-marks-i : goal.bounds-marks-i
bounds-marks-i c =
    writing_inside c.loop-at.invariant (omega (arith, c.loop-at-test.true, c.requires.2))

pub write_slot-at-requires : goal.write_slot-at-requires
write_slot-at-requires c =
    let w = c.loop-at.invariant in
    let f = c.requires.1 in
    let h = writing_inside w (omega (arith, c.loop-at-test.true, c.requires.2)) in
    (omega (arith, h, c.requires.0), writing_within w h f, writing_room w h f)

pub overflow_add-i : goal.overflow_add-i
overflow_add-i c =
    omega (arith, writing_inside c.loop-at.invariant (omega (arith, c.loop-at-test.true, c.requires.2)), c.requires.0)

pub loop-at-smaller : goal.loop-at-smaller
loop-at-smaller c =
    omega (arith, writing_inside c.loop-at.invariant (omega (arith, c.loop-at-test.true, c.requires.2)))

pub loop-at-preserved : goal.loop-at-preserved
loop-at-preserved c =
    let wrote = c.write_slot-at.ensures in
    marks_listed_more c.loop-at.invariant (writing_inside c.loop-at.invariant (omega (arith, c.loop-at-test.true, c.requires.2))) c.requires.1 wrote.0 wrote.1

pub shape_of-slots : goal.shape_of-slots
shape_of-slots c = c.loop-at.invariant.long

pub returns : goal.returns
returns c = writing_all c.loop-at.invariant (omega (arith, c.loop-at-test.false, c.requires.2))
