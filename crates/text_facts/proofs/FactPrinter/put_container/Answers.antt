-- `text_facts::FactPrinter::put_container` meets its contract. Assumes nothing.
use Rattle.model.specs.Listing.{ascii, decimal, space}
use Rattle.text_lines.proofs.TextWritten.{reword, then, then_two}
use Rattle.text_facts.proofs.FactTexts.{pair_text, queue_text}
use native.Mathlib.Omega.{arith}
use Rattle.text_facts.proofs.FactPrinter.put_container.Goals as goal

pub returns-then-cell-gt3 : goal.returns-then-cell-gt3
unfolding ascii
returns-then-cell-gt3 c =
    let a = c.args in
    reword (omega arith) (queue_text a.self.now.classes.now a.cell.kind a.cell.value _ c.if-cell-gt3.true c.class_of-first.ensures)
    (then c.put.ensures c.put_decimal.ensures)

pub returns : goal.returns
returns c =
    let a = c.args in
    let two = then c.put-2.ensures c.put_decimal-2.ensures in
    reword (omega arith) (pair_text a.self.now.classes.now a.cell.kind a.cell.value _ _ _ c.requires.0 c.if-cell-gt3.false c.pair_word.ensures.0 c.class_of-first.ensures c.class_of-second.ensures)
    (then_two space (decimal c.class_of-second.result) two c.put_spaced.ensures)
