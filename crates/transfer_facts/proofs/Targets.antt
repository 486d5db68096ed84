-- Unknown in the target.
-- Assumes nothing.
use mathlib.Core.Path.{◌≡◌, refl}
use mathlib.Core.Bool.{Bool, true, false}
use Rattle.model.specs.Fact.{unknown, kind, value}
use Rattle.model.specs.Tables.{cell_of}
use Rattle.fact_row.specs.Target.{target_cell}
use Rattle.fact_row.proofs.Facts.{fact_cell}

-- is Unknown everywhere
pub unknown_everywhere : (t : Bool) → target_cell t (fact_cell 0 0) ≡ cell_of unknown
unfolding target_cell cell_of kind value
unknown_everywhere true = refl
unknown_everywhere false = refl
