-- `budget::charge_edges` meets its contract: the law of equal charges in a row, where they are covered and where not.
-- Assumes nothing.
use mathlib.Core.Path.{sym}
use Prim.Native.Nat.{◌/◌, ◌%◌}
use native.Mathlib.Omega.{arith}
use Rattle.budget.specs.Outcome.{as_spent}
use Rattle.budget.proofs.EqualCharges.{edges_covered, edges_refused}
use Rattle.budget.proofs.charge_edges.Goals as goal

pub returns-then-count-bytes : goal.returns-then-count-bytes
unfolding as_spent
returns-then-count-bytes c = sym (edges_covered c.args.stage c.args.resources.work c.args.count c.args.resources.bytes (omega arith))

pub returns-else-count-bytes : goal.returns-else-count-bytes
unfolding as_spent
returns-else-count-bytes c =
    sym
    (edges_refused
    c.args.stage
    c.args.resources.work
    c.args.count
    (c.args.resources.bytes / 4)
    (c.args.resources.bytes % 4)
    c.args.resources.bytes
    c.if-count-bytes.false
    (omega arith)
    (omega arith))
