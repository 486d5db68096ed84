-- `text_listing::rows_lines` meets its contract. Assumes nothing.
use mathlib.Core.Path.{◌≡◌}
use Prim.Native.Nat.{◌*◌}
use Rattle.text_facts.specs.Text.{fact_text_by}
use Rattle.text_listing.proofs.RowLines.{Walked}
use Rattle.text_listing.proofs.rows.rows_lines.Given as goal

abbrev pub invariant-loop-pc : goal.invariant-loop-pc
invariant-loop-pc l = (l.from ≡ l.pc * l.s) × Walked (fact_text_by l.printer.which l.printer.classes.now) l.s l.tables l.initial.page l.pc l.page
