-- `sheet_questions::question_5::all_named` meets its contract. Assumes nothing.
use Rattle.sheet_questions.proofs.AllLoop.{every_none, every_more}
use Rattle.sheet_questions.proofs.question_5.all_named.Goals as goal

pub loop-i-init : goal.loop-i-init
loop-i-init g c = λ f says. every_none f

pub loop-i-preserved : goal.loop-i-preserved
loop-i-preserved g c = λ f says. every_more f c.loop-i.i (c.loop-i.invariant f says) (says c.loop-i.i _ c.loop-i-test.true c.named-all.ensures)
