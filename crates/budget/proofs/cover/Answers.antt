-- `budget::cover` meets its contract: each way out is one case of the test.
-- Assumes nothing.
use native.Mathlib.Omega.{arith}
use borrow.Author.Tests.{le-leb, lt-leb}
use Rattle.budget.proofs.cover.Goals as goal

pub returns-then-amount-have : goal.returns-then-amount-have
returns-then-amount-have c = simp (le-leb c.args.amount c.args.have (omega arith))

pub returns-else-amount-have : goal.returns-else-amount-have
returns-else-amount-have c = simp (lt-leb c.args.amount c.args.have (omega arith))
