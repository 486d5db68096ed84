-- `enter_each` meets its contract: each entry has room, and is added behind those before it.
-- Assumes nothing.
use native.Mathlib.Omega.{arith}
use Rattle.std.proofs.lemmas.List.Edits.{paste_none}
use Rattle.fixpoint_list.proofs.Listed.{none_entered, one_more_entered, one_more_stored, all_stored}
use Rattle.fixpoint_list.proofs.enter_each.Goals as goal

pub loop-entry-init : goal.loop-entry-init
loop-entry-init c = (omega arith, paste_none c.args.work_list.now c.args.top c.args.entries.now, none_entered _ _)

pub loop-entry-preserved : goal.loop-entry-preserved
loop-entry-preserved c =
    let inv = c.loop-entry.invariant in
    let added = c.enter-top.ensures in (
      omega (arith, added.1, inv.0),
      one_more_stored _ _ _ _ inv.1 inv.0 c.loop-entry-test.true c.requires.0 added.0,
      one_more_entered _ _ _ _ _ _ _ _ inv.2 c.loop-entry-test.true (omega (arith, inv.0, c.requires.0, c.loop-entry-test.true, c.loop-entry.auto.work_list))
          added.0 added.1,
    )

pub returns-clause-stored : goal.returns-clause-stored
returns-clause-stored c = let inv = c.loop-entry.invariant in all_stored _ _ _ inv.1 inv.0 (omega arith)
