-- `closure::follow_instruction` meets its contract.
-- Assumes nothing.
use Rattle.std.proofs.Common.{arith}
use Rattle.closure.proofs.FollowEdges.{outside_reach, followed_nothing, followed_zero, followed_none, followed_some}
use Rattle.closure.proofs.follow.follow_instruction.Goals as goal

pub returns-then-reach-wrapping_sub_usize : goal.returns-then-reach-wrapping_sub_usize
returns-then-reach-wrapping_sub_usize c = (
  omega arith,
  followed_nothing _
      (outside_reach c.args.inst c.reach.ensures.1 _ _ c.wrapping_sub_usize.ensures.value (omega arith) (omega arith) c.if-reach-wrapping_sub_usize.true),
)

pub returns-then-count-eq0 : goal.returns-then-count-eq0
returns-then-count-eq0 c =
    (omega arith, followed_zero _ _ c.edges_to-edges.result c.edges_to-edges.ensures c.count-count.ensures.0 c.if-count-eq0.true)

pub returns-then-edges-bit-eq0 : goal.returns-then-edges-bit-eq0
returns-then-edges-bit-eq0 c =
    (omega (arith, c.count-count.ensures.1), followed_none _ _ c.edges_to-edges.result c.edges_to-edges.ensures c.count-count.ensures.0 c.if-edges-bit-eq0.true)

pub returns : goal.returns
returns c = (
  omega (arith, c.count-count.ensures.1),
  followed_some _ _ c.edges_to-edges.result c.edges_to-edges.ensures c.count-count.ensures.0 c.if-edges-bit-eq0.false c.mark_all.ensures.steps,
)
