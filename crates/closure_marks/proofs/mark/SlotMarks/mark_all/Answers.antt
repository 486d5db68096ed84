-- `SlotMarks::mark_all` meets its contract: one slot after the other.
-- Assumes nothing.
use mathlib.Core.Path.{refl, ap, ◌∙◌}
use Rattle.closure_marks.specs.Marks.{store, store_all}
use Rattle.closure_marks.proofs.Marks.{none_marked, one_marked, both_marked}
use Rattle.closure_marks.proofs.mark.SlotMarks.mark_all.Goals as goal

pub returns-in-None : goal.returns-in-None
unfolding store_all
returns-in-None c = rw c.in-None.is (record { steps = none_marked; stored = refl })

pub returns-in-One : goal.returns-in-One
unfolding store_all
returns-in-One c = rw c.in-One.is (record { steps = one_marked _ c.mark.ensures.steps; stored = c.mark.ensures.stored })

pub returns-in-Two : goal.returns-in-Two
unfolding store_all
returns-in-Two c =
    let first = c.mark-in-Two.ensures in
    let second = c.mark-in-Two-2.ensures in
    rw c.in-Two.is (record { steps = both_marked _ first.steps _ second.steps; stored = second.stored ∙ ap (store _) first.stored })
