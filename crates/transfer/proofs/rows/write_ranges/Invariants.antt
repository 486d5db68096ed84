-- `transfer::write_ranges` meets its contract. The loop's invariant: the first i ranges are written.
-- Assumes nothing.
use Rattle.fact_row.specs.Changed.{SameRow}
use Rattle.fact_row.specs.Tracked.{facts_read}
use Rattle.transfer_facts.specs.Effect.{effect_cell}
use Rattle.transfer.proofs.RangeWrites.{Ranging}
use Rattle.transfer.proofs.rows.write_ranges.Given as goal

abbrev pub invariant-loop-i : goal.invariant-loop-i
invariant-loop-i l =
    SameRow l.initial.out l.out
    × Ranging l.sheet.bytes.now l.first l.initial.out.slots.now (effect_cell l.effect l.row.slots.now (facts_read l.row)) l.initial.out.kinds.now l.initial.out.values.now
    l.out.kinds.now l.out.values.now l.i
