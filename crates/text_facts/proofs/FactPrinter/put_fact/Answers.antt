-- `text_facts::FactPrinter::put_fact` meets its contract. Assumes nothing.
use mathlib.Core.List.{[]}
use Rattle.model.specs.Listing.{ascii}
use Rattle.text_lines.proofs.TextWritten.{reword}
use Rattle.text_facts.proofs.FactTexts.{unknown_text, conflict_text, constant_text_lem, checked_text, container_text_lem}
use native.Mathlib.Omega.{arith}
use Rattle.text_facts.proofs.FactPrinter.put_fact.Goals as goal

pub returns-then-cell-eq0 : goal.returns-then-cell-eq0
unfolding ascii
returns-then-cell-eq0 c =
    let a = c.args in
    reword (omega arith) (unknown_text a.self.now.classes.now a.self.now.which a.cell.kind a.cell.value c.if-cell-eq0.true) c.put.ensures

pub returns-then-cell-eq1 : goal.returns-then-cell-eq1
unfolding ascii
returns-then-cell-eq1 c =
    let a = c.args in
    reword (omega arith) (conflict_text a.self.now.classes.now a.self.now.which a.cell.kind a.cell.value c.if-cell-eq1.true) c.put-then-cell-eq1.ensures

pub returns-in-Constant : goal.returns-in-Constant
returns-in-Constant c =
    let a = c.args in
    reword (omega arith) (constant_text_lem a.self.now.classes.now a.self.now.which a.cell.kind a.cell.value c.in-Constant.is) (c.put_constant.ensures [])

pub returns-in-IndexCheck : goal.returns-in-IndexCheck
returns-in-IndexCheck c =
    let a = c.args in
    reword (omega arith) (checked_text a.self.now.classes.now a.self.now.which a.cell.kind a.cell.value c.in-IndexCheck.is c.if-cell-eq0.false c.if-cell-eq1.false) c.put_checked.ensures

pub returns-in-Container : goal.returns-in-Container
returns-in-Container c =
    let a = c.args in
    reword (omega arith) (container_text_lem a.self.now.classes.now a.self.now.which a.cell.kind a.cell.value c.in-Container.is) c.put_container.ensures
