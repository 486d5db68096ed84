-- `closure::follow_code` meets its contract: the edges of the instructions passed were counted and followed.
-- Assumes nothing.
use Rattle.std.proofs.Common.{◌*◌, ◌≤◌}
use Rattle.model.specs.Count.{collect}
use Rattle.closure_edges.specs.Chain.{edges_at}
use Rattle.closure.specs.Sources.{Follows}
use Rattle.closure.proofs.follow.follow_code.Given as goal

abbrev pub invariant-loop-pc : goal.invariant-loop-pc
invariant-loop-pc l = (l.count ≤ l.pc * 255) × Follows l.bit (collect (edges_at l.sheet.bytes.now l.d) l.pc) l.initial.marked l.marked l.count
