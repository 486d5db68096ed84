-- `Page::put_name` meets its contract. Assumes nothing.
use mathlib.Core.Path.{refl}
use native.Mathlib.Omega.{arith}
use Rattle.model.specs.Listing.{ascii, analysis_name}
use Rattle.text_lines.proofs.TextWritten.{reword}
use Rattle.text_lines.proofs.page.Page.put_name.Goals as goal

pub returns-in-Constant : goal.returns-in-Constant
unfolding ascii analysis_name
returns-in-Constant c = rw c.in-Constant.is (reword (omega arith) refl c.put.ensures)

pub returns-in-IndexCheck : goal.returns-in-IndexCheck
unfolding ascii analysis_name
returns-in-IndexCheck c = rw c.in-IndexCheck.is (reword (omega arith) refl c.put-in-IndexCheck.ensures)

pub returns-in-Container : goal.returns-in-Container
unfolding ascii analysis_name
returns-in-Container c = rw c.in-Container.is (reword (omega arith) refl c.put-in-Container.ensures)
