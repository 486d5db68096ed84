-- `Page::put_spaced` meets its contract. Assumes nothing.
use Rattle.model.specs.Listing.{ascii, space}
use Rattle.text_lines.proofs.TextWritten.{then}
use Rattle.text_lines.proofs.page.Page.put_spaced.Goals as goal

pub returns : goal.returns
unfolding ascii space
returns c = then c.put.ensures c.put_decimal.ensures
