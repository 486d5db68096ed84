-- `put_room` meets its contract.
-- Assumes nothing.
use mathlib.Core.Path.{◌∙◌}
use Rattle.export_loader.proofs.RoomAnswers.{closure_cleared, cleared_long}
use Rattle.export_loader.proofs.room.put_room.Goals as goal

pub put_counts-requires-clause-ready : goal.put_counts-requires-clause-ready
put_counts-requires-clause-ready c =
    let m = c.clear.ensures in
    let s = c.clear-2.ensures in
    (cleared_long _ m c.requires.0, cleared_long _ s c.requires.1, closure_cleared _ m, closure_cleared _ s)

pub returns : goal.returns
returns c = let e = c.put_counts.ensures in (e.marks ∙ c.clear.ensures, e.stack ∙ c.clear-2.ensures, e.numbers)
