-- `Page::put_numbers` meets its contract: one number behind the other. Assumes nothing.
use Rattle.text_lines.proofs.SpacedNumbers.{none, more}
use Rattle.text_lines.proofs.page.Page.put_numbers.Goals as goal

pub loop-x-init : goal.loop-x-init
loop-x-init c = none c.args.numbers.now _

pub loop-x-preserved : goal.loop-x-preserved
loop-x-preserved c = more _ c.loop-x-test.true c.loop-x.invariant c.put_spaced.ensures
