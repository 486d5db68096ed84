-- `enter_each` meets its contract. The loop's invariant: the first entries are added, and there is room for the others.
-- Assumes nothing.
use mathlib.Core.Path.{◌≡◌}
use Prim.Native.Nat.{◌+◌}
use lib.ListN.{take}
use lib.Seq.{paste}
use Rattle.fixpoint_list.specs.Listed.{EachEntered}
use Rattle.fixpoint_list.proofs.enter_each.Given as goal

abbrev pub invariant-loop-entry : goal.invariant-loop-entry
invariant-loop-entry l =
    (l.top ≡ l.initial.top + l.entry-index) × (l.work_list ≡ paste l.initial.work_list l.initial.top l.entries l.entry-index)
    × EachEntered (take l.entry-index l.entries) l.initial.work_list l.initial.top l.work_list l.top
