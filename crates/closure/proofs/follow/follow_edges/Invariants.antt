-- `closure::follow_edges` meets its contract: the edges of the instructions passed were counted and followed.
-- Assumes nothing.
use Rattle.closure.proofs.FollowEdges.{ChainWalked}
use Rattle.closure.proofs.follow.follow_edges.Given as goal

abbrev pub invariant-loop-number : goal.invariant-loop-number
invariant-loop-number l = ChainWalked l.sheet.bytes.now l.d l.chains.links.now l.bit l.fn.marked l.marked l.count l.number

abbrev pub decreases-loop-number : goal.decreases-loop-number
decreases-loop-number l = l.number
