-- `text_listing::last_line` meets its contract. Assumes nothing.
use mathlib.Core.Path.{sym, ap, ◌∙◌}
use native.Mathlib.Omega.{arith}
use Rattle.model.specs.Listing.{refused_line}
use Rattle.text_listing.specs.Answer.{last_line}
use Rattle.text_lines.proofs.TextWritten.{reword}
use Rattle.text_listing.proofs.answer.last_line.Goals as goal

pub returns-in-Analyzed : goal.returns-in-Analyzed
unfolding last_line
returns-in-Analyzed c = reword (omega arith) (sym (ap last_line c.in-Analyzed.is)) c.left_line.ensures

pub returns-in-Invalid : goal.returns-in-Invalid
unfolding last_line
returns-in-Invalid c = reword (omega arith) (ap refused_line c.number.ensures ∙ sym (ap last_line c.in-Invalid.is)) c.refused_line.ensures

pub returns-in-OverBudget : goal.returns-in-OverBudget
unfolding last_line
returns-in-OverBudget c = reword (omega arith) (sym (ap last_line c.in-OverBudget.is)) c.refused_line-in-OverBudget.ensures

pub returns-in-NoRoom : goal.returns-in-NoRoom
unfolding last_line
returns-in-NoRoom c = reword (omega arith) (sym (ap last_line c.in-NoRoom.is)) c.too_large.ensures
