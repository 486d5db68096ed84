-- `Page::refused_line` meets its contract. Assumes nothing.
use Rattle.model.specs.Listing.{ascii, newline, refused_line}
use Rattle.text_lines.proofs.TextWritten.{then}
use Rattle.text_lines.proofs.page.Page.refused_line.Goals as goal

pub returns : goal.returns
unfolding ascii newline refused_line
returns c = then (then c.put.ensures c.put_decimal.ensures) c.put-2.ensures
