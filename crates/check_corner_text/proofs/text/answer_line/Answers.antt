-- `check_corner_text::answer_line` meets its contract: by what is asked.
-- Assumes nothing.
use Rattle.std.proofs.Common.{Ok, ap, ◌∙◌}
use Rattle.sheet.proofs.SizeNames.{counted}
use Rattle.sheet.proofs.SizeLimits.{limited}
use Rattle.check_corner_text.proofs.AnswerLines.{successors_answered, writes_answered, index_answered, not_answered}
use Rattle.check_corner_text.proofs.text.answer_line.Goals as goal

pub instruction_successors-successors-requires : goal.instruction_successors-successors-requires
instruction_successors-successors-requires c = ((limited c.args.ranged.now.sheet.now.measured).code_count_is, c.requires.0)

pub returns-in-Successors : goal.returns-in-Successors
returns-in-Successors c =
    let sheet = c.args.ranged.now.sheet.now in
    successors_answered sheet.bytes.now c.args.question _ _ (c.in-Ok.is ∙ ap Ok c.in-Successors.is) (counted sheet.measured.are).code_count_is c.instruction-inst.ensures
    c.instruction_successors-successors.ensures c.successors_line.ensures

pub returns-in-Writes : goal.returns-in-Writes
returns-in-Writes c =
    writes_answered c.args.ranged.now.sheet.now.bytes.now c.args.question (c.in-Ok.is ∙ ap Ok c.in-Writes.is) c.instruction_writes_slot-is_written.ensures c.writes_line.ensures

pub returns-in-IndexWrites : goal.returns-in-IndexWrites
returns-in-IndexWrites c =
    index_answered c.args.ranged.now.sheet.now.bytes.now c.args.question (c.in-Ok.is ∙ ap Ok c.in-IndexWrites.is) c.index_check_instruction_writes_slot-is_written.ensures
    c.index_writes_line.ensures

pub returns-in-Err : goal.returns-in-Err
returns-in-Err c = not_answered c.args.ranged.now.sheet.now.bytes.now c.args.question c.args.page.now c.in-Err.is
