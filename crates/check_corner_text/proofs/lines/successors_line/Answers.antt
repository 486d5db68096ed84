-- `check_corner_text::successors_line` meets its contract: one part behind the other.
-- Assumes nothing.
use Rattle.model.specs.Listing.{ascii, newline}
use Rattle.text_lines.proofs.TextWritten.{then_two}
use Rattle.check_corner_text.specs.Lines.{successors_line}
use Rattle.check_corner_text.proofs.lines.successors_line.Goals as goal

pub returns : goal.returns
unfolding ascii newline successors_line
returns c = then_two _ newline c.put_numbered.ensures c.put_numbered_line.ensures
