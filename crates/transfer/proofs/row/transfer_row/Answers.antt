-- `transfer::row::transfer_row` meets its contract: a copy, the slots that are written, and then IndexCheck. Assumes nothing.
use native.Mathlib.Omega.{arith}
use borrow.Author.Rules.{rules}
use Rattle.model.specs.Tables.{facts_of}
use Rattle.transfer_written.proofs.WrittenSlots.{written_are}
use Rattle.transfer.proofs.RowTransfers.{transferred}
use Rattle.transfer.proofs.row.transfer_row.Goals as goal

pub write_slots-requires : goal.write_slots-requires
write_slots-requires c =
    rw c.slots_written-written.ensures (written_are c.args.sheet.now.accepted c.args.pc c.requires.below c.args.which c.args.slots.now (facts_of c.args.kinds.now c.args.values.now)).fits

pub returns : goal.returns
returns c =
    transferred c.args.sheet.now.sheet.now.bytes.now c.args.pc c.args.slots.now (facts_of c.args.kinds.now c.args.values.now) c.args.which _ _
    c.instruction-inst.ensures c.requires.readable_row.0.lies c.copy.ensures c.copy-2.ensures c.requires.readable_row.0.kinds_long c.requires.readable_row.0.values_long
    (λ k l. omega (arith, c.type_inv.slots k)) c.slots_written-written.result c.args.sheet.now.sheet.now.sizes
    (rw c.slots_written-written.ensures (written_are c.args.sheet.now.accepted c.args.pc c.requires.below c.args.which c.args.slots.now (facts_of c.args.kinds.now c.args.values.now))) _ c.effect_of-effect.ensures
    c.write_slots.new.out c.set_checked.new.out c.write_slots.ensures.same.slots c.write_slots.ensures.wrote c.set_checked.ensures.checked (search rules) (search rules)
