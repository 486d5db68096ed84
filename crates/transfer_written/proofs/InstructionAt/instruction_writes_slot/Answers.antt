-- `transfer_written::InstructionAt::instruction_writes_slot` meets its contract: Unknown is no Checked b. Assumes nothing.
use mathlib.Core.Path.{◌∙◌}
use Rattle.model.specs.Tables.{fact_in, fact_of}
use Rattle.transfer_written.proofs.WrittenSlots.{unchecked}
use Rattle.transfer_written.proofs.InstructionAt.instruction_writes_slot.Goals as goal

pub returns : goal.returns
unfolding fact_in fact_of
returns c = c.index_check_instruction_writes_slot.ensures ∙ unchecked c.args.self.now.ranged.now.sheet.now.bytes.now c.args.self.now.pc c.args.slot
