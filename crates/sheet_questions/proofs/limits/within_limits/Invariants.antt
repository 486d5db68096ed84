-- `sheet_questions::limits::within_limits` meets its contract. Assumes nothing.
use mathlib.Core.Path.{◌≡◌}
use lib.ListN.{drop}
use Rattle.model.specs.Sheet.{limits, within_limits}
use Rattle.sheet_questions.proofs.limits.within_limits.Given as goal

abbrev pub invariant-loop-j : goal.invariant-loop-j
invariant-loop-j l = within_limits l.bytes 0 limits ≡ within_limits l.bytes l.j (drop l.j limits)
