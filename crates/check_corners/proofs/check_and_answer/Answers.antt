-- `check_corners::check_and_answer` is safe: what `check_sheet` accepts is accepted.
-- Assumes nothing.
use Rattle.sheet_questions.proofs.FirstRefusal.{accepted_sheet}
use Rattle.check_corners.proofs.check_and_answer.Goals as goal

pub answer_accepted-requires : goal.answer_accepted-requires
answer_accepted-requires g c = accepted_sheet _ _ c.in-Ok.ensures.answer c.in-Ok.ensures.bytes
