-- `closure::take_slot` meets its contract: the top is taken, and its edges are followed.
-- Assumes nothing.
use Rattle.sheet.proofs.SizeNames.{counted}
use Rattle.closure.proofs.ExpandLoop.{slot_below, takes}
use Rattle.closure.proofs.expansion.take_slot.Goals as goal

pub take-d-requires : goal.take-d-requires
take-d-requires c = c.requires.0

pub follow_edges-requires : goal.follow_edges-requires
follow_edges-requires c =
    let asked = c.requires in
    (asked.2, rw (c.take-d.ensures.slot_is, (counted c.args.sheet.now.measured.are).local_slots_is) (slot_below asked.1 asked.0 _))

pub returns : goal.returns
returns c = takes _ _ c.requires.0 c.take-d.ensures c.follow_edges.ensures
