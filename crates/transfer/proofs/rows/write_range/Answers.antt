-- `transfer::write_range` meets its contract: the slots before the range are left, those in it are written, and those behind it are left. Assumes nothing.
use mathlib.Core.Path.{refl}
use Rattle.fact_row.proofs.FactSet.{same_self, same_again}
use Rattle.transfer.proofs.RangeWrites.{writing_start, writing_more, written_range}
use Rattle.transfer.proofs.rows.write_range.Goals as goal

pub loop-j-init : goal.loop-j-init
loop-j-init c =
    let row = c.args.out.now.writable in
    (same_self, writing_start _ _ _ _ _ _ _ row.kinds_long row.values_long (rw c.from.ensures at c.lower_bound-j.ensures))

pub returns-then-count-from-clause-wrote : goal.returns-then-count-from-clause-wrote
returns-then-count-from-clause-wrote c =
    written_range _ _ _ _ _ _ c.loop-j.invariant.1 c.args.out.now.writable.ascending c.loop-j-test.true (rw c.from-in-loop-j.ensures at c.if-count-from.true)

pub loop-j-preserved : goal.loop-j-preserved
loop-j-preserved c = (
  same_again c.loop-j.invariant.0 (record { slots = refl; kinds = refl; values = refl }),
  writing_more _ _ _ _ _ _ c.loop-j.invariant.1 c.loop-j-test.true (rw c.from-in-loop-j.ensures at c.if-count-from.false) c.effect_on_slot-cell.ensures,
)
