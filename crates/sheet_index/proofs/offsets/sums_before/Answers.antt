-- `sheet_index::offsets::sums_before` meets its contract. Assumes nothing.
use native.Mathlib.Omega.{arith}
use Rattle.sheet.proofs.Sums.{sum_part}
use Rattle.sheet_index.proofs.PrefixSums.{summed_none, summed_more}
use Rattle.sheet_index.proofs.offsets.sums_before.Goals as goal

pub loop-i-init : goal.loop-i-init
loop-i-init g c = λ f says. summed_none f _

pub overflow_add-sum : goal.overflow_add-sum
overflow_add-sum g c =
    let fits = c.requires.fits in
    let i = c.loop-i.i in
    omega (arith, (c.loop-i.invariant fits.0 fits.1).is, sum_part fits.0 i c.args.count c.loop-i-test.true, fits.1 i _ c.loop-i-test.true c.part-sum.ensures)

pub loop-i-preserved : goal.loop-i-preserved
loop-i-preserved g c = λ f says. summed_more (c.loop-i.invariant f says) (omega arith) (says c.loop-i.i _ c.loop-i-test.true c.part-sum.ensures)
