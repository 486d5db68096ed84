-- `facts_report::refused` meets its contract: one line, by the question. Assumes nothing.
use Rattle.std.proofs.Common.{rules, ℕ, sym, ap}
use Rattle.std.proofs.Math.Option.{some}
use Rattle.model.specs.Listing.{refused_line}
use Rattle.text_lines.proofs.TextWritten.{shown}
use Rattle.facts_report.proofs.ListingQuestions.{shown_as}
use Rattle.facts_report.proofs.refused.Goals as goal

pub returns : goal.returns
returns c =
    shown_as (ap (λ (n : ℕ). some (refused_line n)) (sym c.number.ensures))
    (shown c.new-page.ensures c.refused_line.ensures c.finished.ensures.count (search rules))
