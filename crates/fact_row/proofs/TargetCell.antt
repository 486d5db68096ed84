-- The cell of a target, and of any other slot.
-- Assumes nothing.
use mathlib.Core.Path.{◌≡◌, refl}
use mathlib.Core.Bool.{Bool, true, false}
use Rattle.model.specs.Fact.{Fact, unknown}
use Rattle.model.specs.Tables.{cell_of}
use Rattle.model.specs.Transfer.{target}
use Rattle.model.specs.declared.FactCell.{FactCell}
use Rattle.fact_row.specs.Target.{target_cell}

-- the cell of a target
pub targeted : (t : Bool) (f : Fact) {r : FactCell} → r ≡ cell_of f → target_cell t r ≡ cell_of (target t f)
unfolding target_cell target
targeted true f e = e
targeted false f e = refl

-- Unknown in the target is Unknown everywhere
pub untargeted : (t : Bool) {r : FactCell} → r ≡ cell_of unknown → target_cell t r ≡ cell_of unknown
unfolding target_cell
untargeted true e = e
untargeted false e = refl
