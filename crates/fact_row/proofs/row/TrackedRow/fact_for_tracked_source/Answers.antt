-- `fact_row::TrackedRow::fact_for_tracked_source` meets its contract: the fact stands where the slot is found. Assumes nothing.
use mathlib.Core.Path.{sym, ap, ◌∙◌}
use native.Mathlib.Omega.{arith}
use Rattle.model.specs.Fact.{kind, value}
use Rattle.model.specs.Tables.{cell_of}
use Rattle.fact_row.proofs.Places.{place_inside, fact_placed, fact_untracked}
use Rattle.fact_row.proofs.Rows.{cell_at, row_long}
use Rattle.fact_row.proofs.row.TrackedRow.fact_for_tracked_source.Goals as goal

pub bounds-self-at : goal.bounds-self-at
bounds-self-at c = omega (arith, place_inside c.args.self.now.slots.now c.args.slot (sym c.in-Some.ensures), c.args.self.now.readable.kinds_long)

pub offset_bounds-self-at : goal.offset_bounds-self-at
offset_bounds-self-at c = omega (arith, place_inside c.args.self.now.slots.now c.args.slot (sym c.in-Some.ensures))

pub bounds-self-at-in-Some : goal.bounds-self-at-in-Some
bounds-self-at-in-Some c = omega (arith, place_inside c.args.self.now.slots.now c.args.slot (sym c.in-Some.ensures), c.args.self.now.readable.values_long)

pub returns-in-Some : goal.returns-in-Some
returns-in-Some c =
    cell_at c.args.self.now.readable.lies c.in-Some.at ∙ ap cell_of
    (sym (fact_placed c.args.self.now.slots.now _ c.args.slot c.args.self.now.readable.ascending (row_long c.args.self.now.readable) (sym c.in-Some.ensures)))

pub returns-in-None : goal.returns-in-None
unfolding cell_of kind value
returns-in-None c = ap cell_of (sym (fact_untracked c.args.self.now.slots.now _ c.args.slot (sym c.in-None.ensures)))
