-- `fact_row::bound::find` meets its contract: the slot is one of the tracked ones, between two, or past them. Assumes nothing.
use mathlib.Core.Path.{sym, ◌∙◌}
use Rattle.fact_row.proofs.Places.{place_found, place_past, place_between}
use Rattle.fact_row.proofs.bound.find.Goals.{else-at-slots-via-then-at-slots+else-from-slot, else-at-slots-via-else-at-slots}
use Rattle.fact_row.proofs.bound.find.Goals as goal

pub returns-then-from-slot : goal.returns-then-from-slot
returns-then-from-slot c = place_found c.lower_bound-at.ensures c.if-at-slots.true (sym c.from.ensures ∙ c.if-from-slot.true)

pub returns-else-at-slots : goal.returns-else-at-slots
returns-else-at-slots c =
    elim c.else-at-slots.branch [
      | else-at-slots-via-then-at-slots+else-from-slot w ↦ place_between c.lower_bound-at.ensures c.requires w.if-at-slots.true (λ q. w.if-from-slot.false (w.from.ensures ∙ q))
      | else-at-slots-via-else-at-slots w ↦ place_past c.lower_bound-at.ensures w.if-at-slots.false
    ]
