-- `closure::follow_code` meets its contract: the edges of the instructions passed were counted and followed.
-- Assumes nothing.
use Rattle.std.proofs.Common.{arith}
use Rattle.sheet.proofs.SizeNames.{counted}
use Rattle.sheet.proofs.SizeLimits.{limited}
use Rattle.closure.proofs.FollowEdges.{follows_none, follows_more, follows_below}
use Rattle.closure.proofs.follow.follow_code.Goals as goal

pub loop-pc-init : goal.loop-pc-init
loop-pc-init c = (omega arith, follows_none _ _ _ _)

pub follow_instruction-count-requires : goal.follow_instruction-count-requires
follow_instruction-count-requires c = (c.requires.1, (limited c.args.sheet.now.measured).local_slots_is)

pub overflow_add-count : goal.overflow_add-count
overflow_add-count c =
    omega (arith, c.loop-pc.invariant.0, c.follow_instruction-count.ensures.0, c.loop-pc-test.true, c.requires.0, (limited c.args.sheet.now.measured).code_count_is)

pub loop-pc-preserved : goal.loop-pc-preserved
loop-pc-preserved c =
    let done = c.loop-pc.invariant in
    let followed = c.follow_instruction-count.ensures in
    (omega (arith, done.0, followed.0), follows_more _ _ _ _ _ _ done.1 c.instruction.ensures (counted c.args.sheet.now.measured.are).local_slots_is followed.1)

pub returns : goal.returns
returns c = follows_below _ _ _ c.loop-pc.auto.pc-end c.loop-pc-test.false c.loop-pc.invariant.0 c.loop-pc.invariant.1
