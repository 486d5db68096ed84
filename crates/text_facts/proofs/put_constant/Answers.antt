-- `text_facts::put_constant` meets its contract. Assumes nothing.
use Rattle.model.specs.Listing.{ascii}
use Rattle.text_lines.proofs.TextWritten.{reword, then}
use Rattle.text_facts.proofs.FactTexts.{constant_from_zero, constant_least, constant_below_zero}
use native.Mathlib.Omega.{arith}
use Rattle.text_facts.proofs.put_constant.Goals as goal

pub returns-then-cell-lt3 : goal.returns-then-cell-lt3
returns-then-cell-lt3 c =
    let a = c.args in
    λ sheet. reword (omega arith) (constant_from_zero sheet a.cell.kind a.cell.value c.requires.0 c.if-cell-lt3.true) c.put_decimal.ensures

pub returns-then-value-eq0 : goal.returns-then-value-eq0
unfolding ascii
returns-then-value-eq0 c =
    let a = c.args in
    λ sheet. reword (omega arith) (constant_least sheet a.cell.kind a.cell.value c.if-cell-lt3.false c.if-value-eq0.true) c.put.ensures

pub returns-else-value-eq0 : goal.returns-else-value-eq0
unfolding ascii
returns-else-value-eq0 c =
    let a = c.args in
    λ sheet. reword (omega arith) (constant_below_zero sheet a.cell.kind a.cell.value c.if-cell-lt3.false (omega arith)) (then c.put-else-value-eq0.ensures c.put_decimal-else-value-eq0.ensures)
