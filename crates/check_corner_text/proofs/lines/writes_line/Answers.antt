-- `check_corner_text::writes_line` meets its contract: the answer behind the numbers.
-- Assumes nothing.
use Rattle.model.specs.Listing.{ascii}
use Rattle.text_lines.proofs.TextWritten.{then}
use Rattle.check_corner_text.specs.Lines.{writes_line}
use Rattle.check_corner_text.proofs.lines.writes_line.Goals as goal

pub returns : goal.returns
unfolding ascii writes_line
returns c = then c.put_numbered.ensures c.put_yes_or_no.ensures
