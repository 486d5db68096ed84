-- `sheet_questions::limits::sizes_of` meets its contract. Assumes nothing.
use Rattle.sheet.specs.Sizes.{sizes_of}
use Rattle.model.specs.Sheet.{code_count, range_count, constant_count, param_count, layout_count, slot_kind_count, local_slots, param_slots, recv_slots, is_closure}
use Rattle.sheet_questions.proofs.limits.sizes_of.Goals as goal

pub returns : goal.returns
unfolding sizes_of code_count range_count constant_count param_count layout_count slot_kind_count local_slots param_slots recv_slots is_closure
returns c = cc
