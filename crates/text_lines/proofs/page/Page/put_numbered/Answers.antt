-- `Page::put_numbered` meets its contract: the numbers behind the word. Assumes nothing.
use Rattle.text_lines.proofs.TextWritten.{then}
use Rattle.text_lines.proofs.page.Page.put_numbered.Goals as goal

pub returns : goal.returns
returns c = then c.put.ensures c.put_numbers.ensures
