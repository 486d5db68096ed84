-- `closure::follow_edges` meets its contract: the edges of the instructions passed were counted and followed.
-- Assumes nothing.
use Rattle.std.proofs.Common.{arith}
use Rattle.sheet.proofs.SizeNames.{counted}
use Rattle.sheet.proofs.SizeLimits.{limited}
use Rattle.closure.proofs.FollowEdges.{follows_all, chain_walked_none, walked_next, chain_walked_more, walked_done, chain_of}
use Rattle.closure.proofs.follow.follow_edges.Goals as goal

pub returns-in_default : goal.returns-in_default
returns-in_default c =
    follows_all _ _ _ _ c.dependency_bit-bit.ensures (counted c.args.sheet.now.measured.are).code_count_is c.follow_code.ensures.1

pub follow_code-count-requires : goal.follow_code-count-requires
follow_code-count-requires c =
    let asked = c.requires in
    let told = rw c.in-Some.is at asked.0 in
    (omega (arith, told.inside, (counted c.args.sheet.now.measured.are).code_count_is), asked.1)

pub newest-number-requires : goal.newest-number-requires
newest-number-requires c = omega (arith, c.requires.1, (limited c.args.sheet.now.measured).local_slots_is)

pub loop-number-init : goal.loop-number-init
loop-number-init c =
    let asked = c.requires in
    let told = rw c.in-Some.is at asked.0 in
    rw c.newest-number.ensures
    (chain_walked_none _ _ told.inside (chain_of told _ (counted c.args.sheet.now.measured.are).local_slots_is asked.1) c.follow_code-count.ensures.0 c.follow_code-count.ensures.1)

pub link-link-requires : goal.link-link-requires
link-link-requires c = (c.loop-number-test.true, (walked_next _ _ c.loop-number.invariant c.loop-number-test.true).made)

pub instruction-inst-requires : goal.instruction-inst-requires
instruction-inst-requires c =
    omega (arith, rw (← c.link-link.ensures) at (walked_next _ _ c.loop-number.invariant c.loop-number-test.true).code, (counted c.args.sheet.now.measured.are).code_count_is)

pub follow_instruction-count-requires : goal.follow_instruction-count-requires
follow_instruction-count-requires c = (c.requires.1, (limited c.args.sheet.now.measured).local_slots_is)

pub overflow_add-count : goal.overflow_add-count
overflow_add-count c =
    let w = c.loop-number.invariant in
    omega (arith, w.small, w.inside, c.follow_instruction-count.ensures.0, (limited c.args.sheet.now.measured).code_count_is, (counted c.args.sheet.now.measured.are).code_count_is)

pub loop-number-smaller : goal.loop-number-smaller
loop-number-smaller c = rw (← c.link-link.ensures) at (walked_next _ _ c.loop-number.invariant c.loop-number-test.true).back

pub loop-number-preserved : goal.loop-number-preserved
loop-number-preserved c =
    let followed = c.follow_instruction-count.ensures in
    chain_walked_more _ _ c.loop-number.invariant c.loop-number-test.true c.link-link.ensures c.instruction-inst.ensures (counted c.args.sheet.now.measured.are).local_slots_is
    followed.0 followed.1

pub returns : goal.returns
returns c = walked_done _ _ c.loop-number.invariant c.loop-number-test.false c.dependency_bit-bit.ensures
