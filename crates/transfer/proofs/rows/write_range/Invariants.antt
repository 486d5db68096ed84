-- `transfer::write_range` meets its contract: the slots before the range are left, those in it are written, and those behind it are left. Assumes nothing.
use Rattle.fact_row.specs.Changed.{SameRow}
use Rattle.fact_row.specs.Tracked.{facts_read}
use Rattle.transfer_facts.specs.Effect.{effect_cell}
use Rattle.transfer.proofs.RangeWrites.{Writing}
use Rattle.transfer.proofs.rows.write_range.Given as goal

abbrev pub invariant-loop-j : goal.invariant-loop-j
invariant-loop-j l =
    SameRow l.initial.out l.out
    × Writing l.initial.out.slots.now l.start l.count (effect_cell l.effect l.row.slots.now (facts_read l.row)) l.initial.out.kinds.now l.initial.out.values.now l.out.kinds.now
    l.out.values.now l.j
