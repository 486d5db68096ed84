-- `run_to_fixpoint` meets its contract: instruction 0 gets the first row, the loop passes through the states of the defined run, and what is over is cleared.
-- Assumes nothing.
use Prim.Native.Nat.{◌+◌, ◌*◌, ◌-◌}
use lib.ListN.{length}
use Rattle.model.specs.Sheet.{code_count}
use Rattle.model.specs.Tables.{facts_of}
use Rattle.fixpoint_step.specs.OneStep.{sheet_of}
use Rattle.fixpoint.specs.Memory.{run_memory}
use Rattle.fixpoint.specs.Turn.{Turn}
use Rattle.fixpoint.proofs.list.run_to_fixpoint.Given as goal

abbrev pub invariant-loop-top : goal.invariant-loop-top
invariant-loop-top l =
    Turn l.analysis (facts_of l.initial.row_kinds l.initial.row_values) l.resources.work (length l.initial.work_list) (run_memory l.present l.kinds l.values l.row_kinds l.row_values l.work_list) l.top l.pops l.rest

abbrev pub decreases-loop-top : goal.decreases-loop-top
decreases-loop-top l =
    code_count (sheet_of l.analysis) * (1 + 2 * length l.analysis.slots.now) - l.pops
