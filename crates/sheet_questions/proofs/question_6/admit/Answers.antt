-- `sheet_questions::question_6::admit` meets its contract. Assumes nothing.
use Rattle.std.proofs.lemmas.Result.{err_from_is_err_and}
use Rattle.sheet_questions.specs.Check.{sized}
use Rattle.sheet_questions.proofs.AdmissionTests.{refused_before, too_few_marks, too_short, wide_enough}
use Rattle.sheet_questions.proofs.question_6.admit.Goals as goal

pub returns-in_err-sheet-clause-answer : goal.returns-in_err-sheet-clause-answer
unfolding sized
returns-in_err-sheet-clause-answer c = let p = err_from_is_err_and c.from_residual.result c.from_residual.ensures.1 in rw (p.1, p.2) (refused_before _ _ _ c.in_err-sheet.ensures.answer)

pub returns-then-marks_len-sheet-clause-answer : goal.returns-then-marks_len-sheet-clause-answer
unfolding sized
returns-then-marks_len-sheet-clause-answer c = too_few_marks _ _ _ c.in_ok-sheet.ensures.answer c.if-marks_len-sheet.true

pub returns-then-stack_len-sheet-clause-answer : goal.returns-then-stack_len-sheet-clause-answer
unfolding sized
returns-then-stack_len-sheet-clause-answer c = too_short _ _ _ c.in_ok-sheet.ensures.answer c.if-marks_len-sheet.false c.if-stack_len-sheet.true

pub returns-clause-answer : goal.returns-clause-answer
unfolding sized
returns-clause-answer c = wide_enough _ _ _ c.in_ok-sheet.ensures.answer c.if-marks_len-sheet.false c.if-stack_len-sheet.false
