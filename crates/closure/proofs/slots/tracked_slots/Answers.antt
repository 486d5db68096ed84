-- `closure::slots::tracked_slots` meets its contract: the first L marks are lent, and the others stay zero.
-- Assumes nothing.
use Rattle.sheet.proofs.SizeNames.{counted}
use Rattle.closure.proofs.TrackedSlots.{blank, marks_clear}
use Rattle.closure.proofs.slots.tracked_slots.Goals as goal

pub track-requires : goal.track-requires
track-requires c =
    let asked = c.requires in
    blank _ c.args.marks.now c.args.stack.now (counted c.args.sheet.now.measured.are).local_slots_is asked.0 asked.1 asked.2 asked.3

pub returns : goal.returns
returns c =
    let asked = c.requires in
    record {
      closes = c.track.ensures.closes;
      no_marks = marks_clear _ c.args.marks.now c.args.stack.now (counted c.args.sheet.now.measured.are).local_slots_is asked.0 asked.1 asked.2 asked.3
          c.track.ensures.no_marks;
      no_entries = c.track.ensures.no_entries;
    }
