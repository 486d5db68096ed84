-- `stage_entry::layouts::charge_layouts` meets its contract: the key's charge, then the value's. Assumes nothing.
use mathlib.Core.Path.{ap, ◌∙◌}
use Prim.Native.Nat.{◌%◌}
use Rattle.model.specs.Tables.{fact_in}
use Rattle.model.specs.Parameters.{charge_layout}
use Rattle.budget.specs.Outcome.{as_spent}
use Rattle.budget.proofs.Spending.{first_refused, second_came}
use Rattle.stage_entry.proofs.Refusals.{refused_not_covered, refused_again}
use Rattle.stage_entry.proofs.LayoutCharges.{no_layouts, two_layouts, one_layout}
use Rattle.stage_entry.proofs.layouts.charge_layouts.Goals as goal

pub returns-then-cell-lt2 : goal.returns-then-cell-lt2
unfolding as_spent fact_in
returns-then-cell-lt2 c =
    let a = c.args in
    no_layouts _ a.cell.value a.resources a.cell.kind c.if-cell-lt2.true

pub returns-then-cell-ne2 : goal.returns-then-cell-ne2
unfolding fact_in
returns-then-cell-ne2 c =
    let a = c.args in
    c.charge_layout-first.ensures ∙ one_layout _ a.cell.value a.resources a.cell.kind c.if-cell-lt2.false c.if-cell-ne2.true

pub returns-in_err-first : goal.returns-in_err-first
unfolding fact_in
returns-in_err-first c =
    let a = c.args in
    ap as_spent (refused_again c.from_residual.result c.in_err-first.was c.from_residual.ensures.1)
    ∙ first_refused _ (charge_layout a.sheet.now.bytes.now (a.cell.value % 65536)) a.resources c.charge_layout-first.result c.charge_layout-first.ensures (refused_not_covered c.in_err-first.was)
    ∙ two_layouts _ a.cell.value a.resources a.cell.kind c.if-cell-ne2.false

pub returns : goal.returns
unfolding fact_in
returns c =
    let a = c.args in
    second_came _ (charge_layout a.sheet.now.bytes.now (a.cell.value % 65536)) a.resources _ c.charge_layout-first.ensures c.charge_layout.result c.in_ok-first.was
    c.charge_layout.ensures
    ∙ two_layouts _ a.cell.value a.resources a.cell.kind c.if-cell-ne2.false
