-- `closure::expand_along` meets its contract: from the state that lies in marks and stack the closure goes on with what is left.
-- Assumes nothing.
use Rattle.std.proofs.Common.{◌≡◌, ◌+◌, length}
use Rattle.finality.proofs.Marks.{free}
use Rattle.closure.proofs.ExpandLoop.{Expanding}
use Rattle.closure.proofs.expansion.expand_along.Given as goal

abbrev pub invariant-loop-marked : goal.invariant-loop-marked
invariant-loop-marked l =
    Expanding l.which l.sheet.bytes.now l.initial.left (length l.initial.marked.stack.now) l.marked.marks.now l.marked.stack.now l.marked.top l.left
    × (l.marked.marks.ghost_name ≡ l.initial.marked.marks.ghost_name) × (l.marked.stack.ghost_name ≡ l.initial.marked.stack.ghost_name)

abbrev pub decreases-loop-marked : goal.decreases-loop-marked
decreases-loop-marked l = free l.marked.marks.now + l.marked.top
