-- `room_of` meets its contract: each way out is one of the questions'.
-- Assumes nothing.
use native.Mathlib.Omega.{arith}
use Rattle.sheet.proofs.SizeNames.{counted}
use Rattle.sheet_questions.specs.Check.{sized}
use Rattle.sheet_questions.proofs.AdmissionTests.{admitted_sheet}
use Rattle.export_loader.proofs.RoomAnswers.{out_too_short, room_refused, room_told}
use Rattle.export_loader.proofs.room.room_of.Goals as goal

pub returns-then-out-lt4 : goal.returns-then-out-lt4
returns-then-out-lt4 c = out_too_short _ _ _ _ c.if-out-lt4.true

pub put_room-requires : goal.put_room-requires
put_room-requires c =
    let t = admitted_sheet _ _ _ _ c.in-Ok.ensures.answer c.in-Ok.ensures.bytes in
    let n = (counted t.0.are).local_slots_is in
    (omega (arith, n, t.1), omega (arith, n, t.2), c.if-out-lt4.false)

pub returns-in-Err : goal.returns-in-Err
unfolding sized
returns-in-Err c = rw c.number.ensures (room_refused _ _ _ _ c.if-out-lt4.false c.in-Err.ensures.answer)

pub returns-in-Ok : goal.returns-in-Ok
unfolding sized
returns-in-Ok c =
    let e = c.put_room.ensures in
    room_told _ _ _ _ c.if-out-lt4.false c.in-Ok.ensures.answer e.0 e.1 (rw (← c.in-Ok.ensures.bytes) e.2)
