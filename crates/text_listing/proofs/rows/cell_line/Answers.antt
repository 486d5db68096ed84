-- `text_listing::cell_line` meets its contract. Assumes nothing.
use Rattle.model.specs.Listing.{ascii, decimal, space, newline}
use Rattle.text_listing.specs.Rows.{cell_line}
use Rattle.text_lines.proofs.TextWritten.{then, then_two}
use Rattle.text_listing.proofs.rows.cell_line.Goals as goal

pub returns : goal.returns
unfolding ascii space newline cell_line
returns c =
    let two = then_two space (decimal c.args.slot) c.put_decimal.ensures (rw c.from.ensures at c.put_spaced.ensures) in
    then (then (then two c.put.ensures) c.put_fact.ensures) c.put-2.ensures
