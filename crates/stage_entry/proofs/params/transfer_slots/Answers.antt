-- `stage_entry::params::transfer_slots` meets its contract: the law of loops that add. Assumes nothing.
use Rattle.model.specs.Parameters.{transfer_slots}
use Rattle.sheet.proofs.SizeLimits.{limited}
use Rattle.sheet.proofs.SizeNames.{counted}
use Rattle.sheet.proofs.Sums.{added_none, added_more, added_all}
use native.Mathlib.Omega.{arith}
use Rattle.stage_entry.proofs.params.transfer_slots.Goals as goal

pub loop-i-init : goal.loop-i-init
loop-i-init c = added_none _ _

pub overflow_add-sum : goal.overflow_add-sum
overflow_add-sum c = let l = limited c.args.sheet.now.measured in omega arith

pub loop-i-preserved : goal.loop-i-preserved
loop-i-preserved c = added_more c.loop-i.invariant c.loop-i-test.true c.param_width.ensures (omega arith)

pub returns : goal.returns
unfolding transfer_slots
returns c =
    (added_all c.loop-i.invariant c.loop-i-test.false (counted c.args.sheet.now.measured.are).param_count_is, let l = limited c.args.sheet.now.measured in omega arith)
