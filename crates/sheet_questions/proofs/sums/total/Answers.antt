-- `sheet_questions::sums::total` meets its contract. Assumes nothing.
use mathlib.Core.Path.{sym}
use native.Mathlib.Omega.{arith}
use Rattle.sheet.proofs.Sums.{sum_none, sum_more}
use Rattle.sheet_questions.proofs.sums.total.Goals as goal

pub loop-i-init : goal.loop-i-init
loop-i-init g c = record { most = omega arith; is = λ f says. sym (sum_none f) }

pub loop-i-preserved : goal.loop-i-preserved
loop-i-preserved g c = record {
  most = omega arith;
  is = λ f says. omega (arith, sum_more f c.loop-i.i, c.loop-i.invariant.is f says, says c.loop-i.i _ c.loop-i-test.true c.part.ensures);
}
