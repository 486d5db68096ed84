-- `check_replay::line::put_line` meets its contract: one part behind the other.
-- Assumes nothing.
use Rattle.std.proofs.Common.{rules}
use Rattle.model.specs.Listing.{ascii, newline}
use Rattle.text_lines.proofs.TextWritten.{then, shown}
use Rattle.check_replay.proofs.CallsInTurn.{line_shown}
use Rattle.check_replay.proofs.line.put_line.Goals as goal

pub returns : goal.returns
unfolding ascii newline
returns c =
    line_shown _ _ c.replay-called.result c.replay-called.ensures c.put_answer.ensures.0 c.from.ensures
    (shown c.new-page.ensures (then c.put_numbered.ensures c.put_numbered_line.ensures) c.finished.ensures.count (search rules))
