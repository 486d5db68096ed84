-- `check_corner_text::refused_corner_line` meets its contract: the numbers behind the words.
-- Assumes nothing.
use Rattle.model.specs.Listing.{ascii, newline}
use Rattle.check_corner_text.specs.Lines.{refused_corner_line}
use Rattle.check_corner_text.proofs.lines.refused_corner_line.Goals as goal

pub returns : goal.returns
unfolding ascii newline refused_corner_line
returns c = c.put_numbered_line.ensures
