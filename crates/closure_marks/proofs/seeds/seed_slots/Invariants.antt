-- `closure_marks::seed_slots` meets its contract: the seeds of the instructions passed are marked.
-- Assumes nothing.
use mathlib.Core.Path.{◌≡◌}
use Rattle.model.specs.Closure.{mark_seeds}
use Rattle.closure_marks.specs.Marks.{Steps, held, store_seeds}
use Rattle.closure_marks.proofs.seeds.seed_slots.Given as goal

abbrev pub invariant-loop-pc : goal.invariant-loop-pc
invariant-loop-pc l =
    Steps (mark_seeds l.which l.sheet.bytes.now l.pc) l.initial.marked l.marked × (held l.marked ≡ store_seeds l.which l.sheet.bytes.now l.pc (held l.initial.marked))
