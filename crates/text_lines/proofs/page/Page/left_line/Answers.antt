-- `Page::left_line` meets its contract. Assumes nothing.
use Rattle.model.specs.Listing.{ascii, decimal, space, newline, left_line}
use Rattle.text_lines.proofs.TextWritten.{then, then_two}
use Rattle.text_lines.proofs.page.Page.left_line.Goals as goal

pub returns : goal.returns
unfolding ascii newline left_line
returns c =
    let two = then c.put.ensures c.put_decimal.ensures in
    then (then_two space (decimal c.args.left.work) two c.put_spaced.ensures) c.put-2.ensures
