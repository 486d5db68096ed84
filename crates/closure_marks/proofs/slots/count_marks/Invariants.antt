-- `closure_marks::slots::count_marks` meets its contract: the marks passed are counted.
-- Assumes nothing.
use Rattle.closure_marks.proofs.MarkedSlots.{Counting}
use Rattle.closure_marks.proofs.slots.count_marks.Given as goal

abbrev pub invariant-loop-mark : goal.invariant-loop-mark
invariant-loop-mark l = Counting l.marks l.count l.mark-index
