-- `closure_edges::charges::charge_dependencies` meets its contract: so far all charges were covered.
-- Assumes nothing.
use Rattle.budget.proofs.Spending.{Charged}
use Rattle.closure_edges.proofs.EdgeCharges.{charges}
use Rattle.closure_edges.proofs.charges.charge_dependencies.Given as goal

abbrev pub invariant-loop-pc : goal.invariant-loop-pc
invariant-loop-pc l = Charged (charges l.sheet.bytes.now) l.fn.sheet.sizes.code_count l.initial.left l.left l.pc
