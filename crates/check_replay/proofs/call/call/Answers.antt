-- `check_replay::call::call` meets its contract: what it is lent is what the definition gives, and all that it leaves is put into the checksum.
-- Assumes nothing.
use Rattle.std.proofs.Common.{rules}
use Rattle.stage_memory.specs.Lent.{lent_in}
use Rattle.check_replay.proofs.CallBuffers.{table_is, scratch_is, called_is}
use Rattle.check_replay.proofs.call.call.Goals as goal

pub returns : goal.returns
returns c =
    let head = c.args.head.now in
    let call = c.args.call in
    let l = c.analyze-answer.new in
    called_is head call c.args.sheet.now c.args.checksum c.analyze-answer.result (lent_in l.constants l.index l.containers l.scratch)
    c.budget_of.result _ _ _ _
    (table_is head call 0 c.front-constant_slots.ensures c.front-constant_present.ensures c.front-constant_kinds.ensures c.front-constant_values.ensures)
    (table_is head call 4 c.front-index_slots.ensures c.front-index_present.ensures c.front-index_kinds.ensures c.front-index_values.ensures)
    (table_is head call 8 c.front-container_slots.ensures c.front-container_present.ensures c.front-container_kinds.ensures c.front-container_values.ensures)
    (scratch_is head call c.front-marks.ensures c.front-stack.ensures c.front-row_kinds.ensures c.front-row_values.ensures c.front-work_list.ensures)
    c.budget_of.ensures c.analyze-answer.ensures.call c.with_answer.ensures
    c.with_table.ensures c.with_table-2.ensures c.with_table-3.ensures c.with_scratch-checksum.ensures
    (search rules) (search rules) (search rules) (search rules)
