-- `lowest_layout` meets its contract: each way out is one of the questions'.
-- Assumes nothing.
use Rattle.sheet_questions.specs.Check.{sized}
use Rattle.sheet_questions.proofs.FirstRefusal.{accepted_sheet}
use Rattle.export_loader.proofs.RoomAnswers.{no_entry, sheet_refused, searched}
use Rattle.export_loader.proofs.lowest.lowest_layout.Goals as goal

pub returns-then-out-lt1 : goal.returns-then-out-lt1
returns-then-out-lt1 c = no_entry _ _ _ c.if-out-lt1.true

pub put_lowest-requires : goal.put_lowest-requires
put_lowest-requires c = (accepted_sheet _ _ c.in-Ok.ensures.answer c.in-Ok.ensures.bytes, c.if-out-lt1.false)

pub returns-in-Err : goal.returns-in-Err
unfolding sized
returns-in-Err c = rw c.number.ensures (sheet_refused _ _ _ c.if-out-lt1.false c.in-Err.ensures.answer)

pub returns-in-Ok : goal.returns-in-Ok
unfolding sized
returns-in-Ok c = searched _ _ _ c.if-out-lt1.false c.in-Ok.ensures.answer (rw (← c.in-Ok.ensures.bytes) c.put_lowest.ensures)
