-- `Tables::cell` meets its contract. Assumes nothing.
use mathlib.Core.Path.{ap}
use Rattle.fact_row.specs.Place.{placed}
use Rattle.model.specs.Call.{Table}
use Rattle.model.specs.Lookup.{cell_found, none_found}
use Rattle.lookup.proofs.Rows.{no_row, no_slot, the_cell}
use Rattle.lookup.proofs.tables.Tables.cell.Goals as goal

pub returns-then-present_at-ne1 : goal.returns-then-present_at-ne1
unfolding none_found
returns-then-present_at-ne1 c =
    no_row c.args.self.now c.args.pc _ c.present_at.ensures (placed c.args.at) c.if-present_at-ne1.true

pub returns-in_err-j : goal.returns-in_err-j
unfolding none_found
returns-in_err-j c = rw (c.from_residual.ensures, c.in_err-j.was) (no_slot c.args.self.now c.args.pc _ c.present_at.ensures c.if-present_at-ne1.false)

pub returns : goal.returns
unfolding cell_found
returns c =
    rw (ap (λ (t : Table). t.slots) c.self.view_is, ap (λ (t : Table). t.kinds) c.self.view_is, ap (λ (t : Table). t.values) c.self.view_is, c.in_ok-j.was)
    (the_cell c.args.self.now c.args.pc _ c.present_at.ensures c.in_ok-j.j c.if-present_at-ne1.false)
