-- The operation of Shl in `transfer_facts::constant_fact_written_to_slot`: by the shift. Assumes nothing.
use Rattle.transfer_facts.proofs.ConstantFacts.{shifted_in, shifted_out}
use Rattle.transfer_facts.proofs.constants.fn.constant_fact_written_to_slot.fold_u64_constant_binary.Goals as goal

pub returns-then-y-lt64 : goal.returns-then-y-lt64
returns-then-y-lt64 c = shifted_in c.args.x c.args.y c.if-y-lt64.true

pub returns-else-y-lt64 : goal.returns-else-y-lt64
returns-else-y-lt64 c = shifted_out c.args.x c.args.y c.if-y-lt64.false
