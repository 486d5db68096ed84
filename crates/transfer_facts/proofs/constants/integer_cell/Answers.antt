-- `transfer_facts::integer_cell` meets its contract: by the sign. Assumes nothing.
use Rattle.transfer_facts.proofs.ConstantFacts.{from_zero, negative}
use Rattle.transfer_facts.proofs.constants.integer_cell.Goals as goal

pub returns-then-number-lt0 : goal.returns-then-number-lt0
returns-then-number-lt0 c = negative c.args.number c.ranges.number c.cast_unsigned-value.ensures c.if-number-lt0.true

pub returns-else-number-lt0 : goal.returns-else-number-lt0
returns-else-number-lt0 c = from_zero c.args.number c.ranges.number c.cast_unsigned-value.ensures c.if-number-lt0.false
