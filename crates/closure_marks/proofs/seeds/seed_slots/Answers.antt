-- `closure_marks::seed_slots` meets its contract: the seeds of the instructions passed are marked.
-- Assumes nothing.
use Rattle.sheet.proofs.SizeNames.{counted}
use Rattle.closure_marks.proofs.SeedRules.{seeds_none, seeds_more, seeds_all, stored_none, stored_more, stored_all}
use Rattle.closure_marks.proofs.seeds.seed_slots.Goals as goal

pub loop-pc-init : goal.loop-pc-init
loop-pc-init c = (seeds_none _ _ _, stored_none _ _ _)

pub loop-pc-preserved : goal.loop-pc-preserved
loop-pc-preserved c =
    let done = c.loop-pc.invariant in
    let marked = c.mark_all.ensures in (
      seeds_more _ _ _ c.seed_fields-seeds.result done.0 c.instruction.ensures c.seed_fields-seeds.ensures marked.steps,
      stored_more _ _ _ c.seed_fields-seeds.result _ done.1 c.instruction.ensures c.seed_fields-seeds.ensures marked.stored,
    )

pub returns : goal.returns
returns c =
    let done = c.loop-pc.invariant in
    let all = (counted c.args.sheet.now.measured.are).code_count_is in record {
      steps = seeds_all _ _ _ _ c.loop-pc.auto.pc-end c.loop-pc-test.false all done.0;
      stored = stored_all _ _ _ _ _ c.loop-pc.auto.pc-end c.loop-pc-test.false all done.1;
    }
