-- `text_listing::row_lines` meets its contract. Assumes nothing.
use Rattle.text_facts.specs.Text.{fact_text_by}
use Rattle.text_listing.proofs.CellLines.{listed_none, listed_more, listed_all, listed_nothing}
use native.Mathlib.Omega.{arith}
use Rattle.text_listing.proofs.rows.row_lines.Goals as goal

pub returns-then-present-ne1 : goal.returns-then-present-ne1
returns-then-present-ne1 c =
    let a = c.args in
    listed_nothing (fact_text_by a.printer.now.which a.printer.now.classes.now) a.pc a.slots.now a.kinds.now a.values.now a.page.now a.present c.if-present-ne1.true

pub loop-j-init : goal.loop-j-init
loop-j-init c =
    let a = c.args in
    listed_none (fact_text_by a.printer.now.which a.printer.now.classes.now) a.pc a.slots.now a.kinds.now a.values.now a.page.now

pub loop-j-preserved : goal.loop-j-preserved
loop-j-preserved c =
    let a = c.args in
    listed_more (fact_text_by a.printer.now.which a.printer.now.classes.now) a.pc a.slots.now a.kinds.now a.values.now c.loop-j.j c.requires.0 c.requires.1 c.loop-j-test.true c.loop-j.invariant c.cell_line.ensures

pub returns : goal.returns
returns c =
    let a = c.args in
    listed_all (fact_text_by a.printer.now.which a.printer.now.classes.now) a.pc a.slots.now a.kinds.now a.values.now a.present c.loop-j.j c.requires.0 c.requires.1 c.if-present-ne1.false (omega arith) c.loop-j.invariant
