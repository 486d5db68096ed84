-- `Tables::names` meets its contract. Assumes nothing.
use mathlib.Core.Path.{ap}
use Rattle.model.specs.Call.{Table}
use Rattle.lookup.proofs.Rows.{untracked_row, present_row_lem, other_row}
use Rattle.lookup.proofs.tables.Tables.names.Goals as goal

pub returns-in-Some-eq1 : goal.returns-in-Some-eq1
returns-in-Some-eq1 c =
    let a = c.in-Some-eq1 in
    rw (ap (λ (t : Table). t.slots) c.self.view_is, ap (λ (t : Table). t.kinds) c.self.view_is, a.is-0)
    (present_row_lem c.args.last c.args.self.now c.args.pc _ c.present_at.ensures a.j a.is-1)

pub returns-in-Some-default : goal.returns-in-Some-default
returns-in-Some-default c =
    let a = c.in-Some-default in
    rw a.is-0 (other_row c.args.last c.args.self.now c.args.pc _ c.present_at.ensures a.field-0-0 a.is-1.1)

pub returns-in-None-default : goal.returns-in-None-default
returns-in-None-default c = rw c.in-None-default.is-0 (untracked_row c.args.last c.args.self.now c.args.pc _ c.present_at.ensures)
