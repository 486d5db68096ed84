-- `text_facts::put_checked` meets its contract. Assumes nothing.
use Rattle.model.specs.Listing.{ascii}
use Rattle.text_lines.proofs.TextWritten.{then}
use Rattle.text_facts.proofs.put_checked.Goals as goal

pub returns : goal.returns
unfolding ascii
returns c = then c.put.ensures c.put_decimal.ensures
