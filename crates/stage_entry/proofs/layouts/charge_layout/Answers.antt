-- `stage_entry::layouts::charge_layout` meets its contract: one charge. Assumes nothing.
use Rattle.model.specs.Parameters.{charge_layout}
use Rattle.budget.proofs.Spending.{bytes_came}
use native.Mathlib.Omega.{arith}
use Rattle.stage_entry.proofs.layouts.charge_layout.Goals as goal

pub returns : goal.returns
unfolding charge_layout
returns c =
    let a = c.args in
    bytes_came 5 c.metered.result a.resources c.charge_bytes.ensures c.metered.ensures (omega (arith, c.layout_length-slots.ensures))
