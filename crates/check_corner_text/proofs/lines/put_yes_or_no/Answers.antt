-- `check_corner_text::put_yes_or_no` meets its contract: one of two words.
-- Assumes nothing.
use mathlib.Core.Path.{refl}
use native.Mathlib.Omega.{arith}
use Rattle.model.specs.Listing.{ascii}
use Rattle.text_lines.proofs.TextWritten.{reword}
use Rattle.check_corner_text.specs.Lines.{yes_or_no}
use Rattle.check_corner_text.proofs.lines.put_yes_or_no.Goals as goal

pub returns-then-answer : goal.returns-then-answer
unfolding ascii yes_or_no
returns-then-answer c = rw c.if-answer.true c.put.ensures

pub returns-else-answer : goal.returns-else-answer
unfolding ascii yes_or_no
returns-else-answer c = rw c.if-answer.false (reword (omega arith) refl c.put-else-answer.ensures)
