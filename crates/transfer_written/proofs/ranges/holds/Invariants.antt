-- `transfer_written::ranges::holds` meets its contract. The loop's invariant: the ranges passed do not hold the slot. Assumes nothing.
use Rattle.transfer_written.proofs.RangeLoop.{NoneHolds}
use Rattle.transfer_written.proofs.ranges.holds.Given as goal

abbrev pub invariant-loop-i : goal.invariant-loop-i
invariant-loop-i l = NoneHolds l.written l.sheet.bytes.now l.slot l.i
