-- `closure_marks::slots::write_marked_slots` meets its contract: the marked slots passed are written.
-- Assumes nothing.
use Prim.Native.Nat.{◌-◌}
use lib.ListN.{length}
use Rattle.closure_marks.proofs.MarkedSlots.{MarksListed}
use Rattle.closure_marks.proofs.slots.write_marked_slots.Given as goal

abbrev pub invariant-loop-at : goal.invariant-loop-at
invariant-loop-at l = MarksListed l.marks l.initial.slots l.slots l.at l.i

abbrev pub decreases-loop-at : goal.decreases-loop-at
decreases-loop-at l = length l.marks - l.i
