-- `check_corner_text::accepted_line` meets its contract: the numbers behind the words.
-- Assumes nothing.
use Rattle.model.specs.Listing.{ascii, newline}
use Rattle.check_corner_text.specs.Lines.{accepted_line}
use Rattle.check_corner_text.proofs.lines.accepted_line.Goals as goal

pub returns : goal.returns
unfolding ascii newline accepted_line
returns c = c.put_numbered_line.ensures
