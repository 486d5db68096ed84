-- `closure_marks::slots::count_marks` meets its contract: the marks passed are counted.
-- Assumes nothing.
use Rattle.closure_marks.proofs.MarkedSlots.{counting_none, counting_more, counting_all}
use Rattle.closure_marks.proofs.slots.count_marks.Goals as goal

pub loop-mark-init : goal.loop-mark-init
loop-mark-init c = counting_none _

pub loop-mark-preserved : goal.loop-mark-preserved
loop-mark-preserved c = counting_more c.loop-mark.invariant c.loop-mark-test.true c.one_if_set-count.ensures.0 c.one_if_set-count.ensures.1

pub returns : goal.returns
returns c = counting_all c.loop-mark.invariant c.loop-mark-test.false
