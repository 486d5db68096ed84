-- `text_listing::row_lines` meets its contract. Assumes nothing.
use Rattle.text_facts.specs.Text.{fact_text_by}
use Rattle.text_listing.proofs.CellLines.{CellsListed}
use Rattle.text_listing.proofs.rows.row_lines.Given as goal

abbrev pub invariant-loop-j : goal.invariant-loop-j
invariant-loop-j l = CellsListed (fact_text_by l.printer.which l.printer.classes.now) l.pc l.slots l.kinds l.values l.initial.page l.j l.page
