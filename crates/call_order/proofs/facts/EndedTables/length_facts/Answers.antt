-- `EndedTables::length_facts` meets its contract, by the law of its loop. Assumes nothing.
use native.Mathlib.Omega.{arith}
use Rattle.sheet.proofs.SizeNames.{counted}
use Rattle.call_order.proofs.LengthTables.{stored_none, stored_more, stored_all, lengths_read}
use Rattle.call_order.proofs.facts.EndedTables.length_facts.Goals as goal

pub loop-pc-init : goal.loop-pc-init
loop-pc-init c = stored_none _ _ _ _ _ _ _ c.requires.1

pub loop-pc-preserved : goal.loop-pc-preserved
loop-pc-preserved c = stored_more _ _ _ _ _ _ _ c.loop-pc.invariant c.loop-pc-test.true c.length_fact-cell.ensures.fact

pub shape_of-lengths : goal.shape_of-lengths
shape_of-lengths c = c.loop-pc.invariant.long

pub returns-clause-stored : goal.returns-clause-stored
returns-clause-stored c = stored_all _ _ _ _ _ _ _ c.loop-pc.invariant c.loop-pc-test.false (counted c.args.sheet.now.measured.are).code_count_is

pub returns-clause-read : goal.returns-clause-read
returns-clause-read c constants same e pc l o =
    let n = (counted c.args.sheet.now.measured.are).code_count_is in
    let all = stored_all _ _ _ _ _ _ _ c.loop-pc.invariant c.loop-pc-test.false n constants.rows e in
    lengths_read _ constants same _ (omega arith) all pc l o
