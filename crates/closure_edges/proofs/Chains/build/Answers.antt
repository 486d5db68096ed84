-- `Chains::build` meets its contract: the instructions from pc on are linked.
-- Assumes nothing.
use mathlib.Core.Path.{◌∙◌}
use native.Mathlib.Omega.{arith}
use Rattle.sheet.proofs.SizeNames.{counted}
use Rattle.sheet.proofs.SizeLimits.{limited}
use Rattle.closure_edges.proofs.BucketOrder.{buckets_at_lem}
use Rattle.closure_edges.proofs.ChainLoops.{building_more, building_full, building_done}
use Rattle.closure_edges.proofs.Chains.build.Goals as goal

pub instruction-requires : goal.instruction-requires
instruction-requires c = omega (arith, c.loop-pc.invariant.linked.inside)

pub buckets_of-buckets-requires : goal.buckets_of-buckets-requires
buckets_of-buckets-requires c = (limited c.args.sheet.now.measured).local_slots_is

pub returns-then-chains-buckets-clause-graph : goal.returns-then-chains-buckets-clause-graph
returns-then-chains-buckets-clause-graph c =
    let i = c.loop-pc.invariant in
    let sizes = counted c.args.sheet.now.measured.are in
    building_full _ i.linked c.loop-pc-test.true c.loop-pc.chains.room
    (buckets_at_lem _ _ c.buckets_of-buckets.ensures.0 c.instruction.ensures sizes.local_slots_is)
    _ c.if-chains-buckets.true sizes.code_count_is (rw c.clear.ensures) i.first_is

pub link_each-requires : goal.link_each-requires
link_each-requires c =
    (c.buckets_of-buckets.ensures.1, omega (arith, c.loop-pc.chains.room, c.if-chains-buckets.false), omega (arith, c.loop-pc.invariant.linked.inside, (limited c.args.sheet.now.measured).code_count_is))

pub loop-pc-preserved : goal.loop-pc-preserved
loop-pc-preserved c =
    let i = c.loop-pc.invariant in
    let made = c.link_each.ensures in
    record {
      linked = building_more _ i.linked c.loop-pc-test.true c.loop-pc.chains.room
          (buckets_at_lem _ _ c.buckets_of-buckets.ensures.0 c.instruction.ensures (counted c.args.sheet.now.measured.are).local_slots_is)
          c.if-chains-buckets.false made.linked;
      first_is = made.first;
      same_heads = made.same_heads ∙ i.same_heads;
      same_links = made.same_links ∙ i.same_links;
    }

pub returns-clause-graph : goal.returns-clause-graph
returns-clause-graph c =
    let i = c.loop-pc.invariant in
    building_done _ _ i.linked c.loop-pc-test.false (counted c.args.sheet.now.measured.are).code_count_is (rw c.clear.ensures) i.first_is
