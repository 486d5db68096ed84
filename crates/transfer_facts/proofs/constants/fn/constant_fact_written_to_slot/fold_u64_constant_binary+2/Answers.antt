-- The operation of Or in `transfer_facts::constant_fact_written_to_slot`. Assumes nothing.
use mathlib.Core.Path.{refl}
use Rattle.model.specs.Transfer.{or}
use Rattle.transfer_facts.proofs.constants.fn.constant_fact_written_to_slot.fold_u64_constant_binary+2.Goals as goal

pub returns : goal.returns
unfolding or
returns c = refl
