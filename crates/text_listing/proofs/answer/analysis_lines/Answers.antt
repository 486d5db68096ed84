-- `text_listing::analysis_lines` meets its contract. Assumes nothing.
use native.Mathlib.Omega.{arith}
use Rattle.text_facts.specs.Text.{fact_text_by}
use Rattle.text_listing.proofs.RowLines.{rows_short, analysis_written}
use Rattle.text_listing.proofs.answer.analysis_lines.Goals as goal

pub rows_lines-requires : goal.rows_lines-requires
rows_lines-requires c =
    let a = c.args in
    let p = c.requires in
    let w = c.head_line.ensures.added in
    let t = p.2 in
    (t.slots, t.present, t.kinds, t.values, omega (arith, w.short, w.long, rows_short a.n a.counts.tracked p.0 (omega (arith, t.slots))))

pub returns : goal.returns
returns c =
    let a = c.args in
    analysis_written a.printer.now.which (fact_text_by a.printer.now.which a.printer.now.classes.now) a.tables.now a.counts a.n c.requires.0 (omega (arith, c.requires.2.slots)) c.head_line.ensures c.rows_lines.ensures
