-- `transfer::write_ranges` meets its contract: each turn is one range more.
-- Assumes nothing.
use mathlib.Core.Path.{◌∙◌}
use native.Mathlib.Omega.{arith}
use Rattle.fact_row.proofs.FactSet.{same_self, same_again}
use Rattle.transfer.proofs.RangeWrites.{ranging_start, ranging_more, ranging_beyond}
use Rattle.transfer.proofs.rows.write_ranges.Goals as goal
use Rattle.transfer.proofs.rows.write_ranges.Goals.{then-start-last, else-start-last}

pub loop-i-init : goal.loop-i-init
loop-i-init c =
    let row = c.args.out.now.writable in
    (same_self, ranging_start c.args.sheet.now.bytes.now c.args.first c.args.out.now.slots.now _ c.args.out.now.kinds.now c.args.out.now.values.now row.kinds_long row.values_long)

pub loop-i-preserved : goal.loop-i-preserved
loop-i-preserved c =
    elim c.if-start-last.branch [
      | then-start-last w ↦
          rw w.out-is (
            same_again c.loop-i.invariant.0 w.write_range.ensures.same,
            ranging_more c.args.sheet.now.bytes.now c.args.first c.args.out.now.slots.now _ c.args.out.now.kinds.now c.args.out.now.values.now c.loop-i.i
                c.loop-i.invariant.1 c.range_start-start.ensures (w.from-length.ensures ∙ w.range_length.ensures) (rw c.loop-i.invariant.0.slots at w.write_range.ensures.wrote),
          )
      | else-start-last w ↦
          rw w.out-is (
            c.loop-i.invariant.0,
            ranging_beyond c.args.sheet.now.bytes.now c.args.first c.args.out.now.slots.now _ c.args.out.now.kinds.now c.args.out.now.values.now c.loop-i.i
                c.loop-i.invariant.1 c.range_start-start.ensures c.args.out.now.writable.ascending (omega (arith, c.requires.last_is, w.if-start-last.false)),
          )
    ]
