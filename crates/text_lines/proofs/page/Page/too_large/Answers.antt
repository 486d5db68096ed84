-- `Page::too_large` meets its contract. Assumes nothing.
use Rattle.model.specs.Listing.{ascii, too_large}
use Rattle.text_lines.proofs.page.Page.too_large.Goals as goal

pub returns : goal.returns
unfolding ascii too_large
returns c = c.put.ensures
