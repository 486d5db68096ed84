-- `Tables::shown` meets its contract. Assumes nothing.
use mathlib.Core.Path.{refl}
use native.Mathlib.Omega.{arith}
use Rattle.model.specs.Lookup.{shown}
use Rattle.lookup.proofs.FixedSlots.{shown_more}
use Rattle.lookup.proofs.tables.Tables.shown.Goals as goal

pub loop-pc-init : goal.loop-pc-init
unfolding shown
loop-pc-init c = (omega arith, refl)

pub loop-pc-preserved : goal.loop-pc-preserved
loop-pc-preserved c =
    let l = c.loop-pc in
    (omega arith, shown_more _ _ _ _ c.args.j l.pc _ _ l.auto.pc l.invariant.1 c.show_if-seen.ensures)
