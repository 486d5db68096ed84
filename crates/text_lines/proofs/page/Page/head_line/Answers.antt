-- `Page::head_line` meets its contract. Assumes nothing.
use Rattle.model.specs.Listing.{ascii, decimal, space, newline, head_line}
use Rattle.text_lines.proofs.TextWritten.{then, then_two}
use Rattle.text_lines.proofs.page.Page.head_line.Goals as goal

pub returns : goal.returns
unfolding ascii newline head_line
returns c =
    let a = c.args in
    let two = then_two space (decimal a.n) c.put_name.ensures c.put_spaced.ensures in
    let three = then_two space (decimal a.s) two c.put_spaced-2.ensures in
    then (then_two space (decimal a.pops) three c.put_spaced-3.ensures) c.put.ensures
