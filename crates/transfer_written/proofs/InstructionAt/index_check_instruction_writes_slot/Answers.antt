-- `transfer_written::InstructionAt::index_check_instruction_writes_slot` meets its contract: the slots that are found are those that are written. Assumes nothing.
use mathlib.Core.Path.{◌∙◌}
use native.Mathlib.Omega.{arith}
use Rattle.model.specs.Tables.{fact_in}
use Rattle.transfer_written.proofs.WrittenSlots.{index_spans_are}
use Rattle.transfer_written.proofs.InstructionAt.index_check_instruction_writes_slot.Goals as goal

pub holds-requires : goal.holds-requires
holds-requires c =
    rw c.instruction_writes-found.ensures (index_spans_are c.args.self.now.ranged.now.accepted c.args.self.now.pc c.args.self.now.below (fact_in c.args.before)).fits

pub returns : goal.returns
returns c =
    c.holds.ensures ∙ rw c.instruction_writes-found.ensures ((index_spans_are c.args.self.now.ranged.now.accepted c.args.self.now.pc c.args.self.now.below (fact_in c.args.before)).slots c.args.slot (omega arith))
