-- `Page::put_numbered_line` meets its contract: the newline behind the numbers. Assumes nothing.
use Rattle.model.specs.Listing.{ascii, newline}
use Rattle.text_lines.proofs.TextWritten.{then}
use Rattle.text_lines.proofs.page.Page.put_numbered_line.Goals as goal

pub returns : goal.returns
unfolding ascii newline
returns c = then c.put_numbered.ensures c.put.ensures
