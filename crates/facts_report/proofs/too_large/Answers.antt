-- `facts_report::too_large` meets its contract: one line. Assumes nothing.
use Rattle.std.proofs.Common.{rules}
use Rattle.text_lines.proofs.TextWritten.{shown}
use Rattle.facts_report.proofs.too_large.Goals as goal

pub returns : goal.returns
returns c = shown c.new-page.ensures c.too_large.ensures c.finished.ensures.count (search rules)
