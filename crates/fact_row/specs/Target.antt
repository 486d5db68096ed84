-- The cell of a slot that an instruction writes.
-- Assumes nothing.
use Rattle.std.specs.Prelude.{Bool, true, false}
use Rattle.model.specs.Fact.{unknown}
use Rattle.model.specs.Tables.{cell_of}
use Rattle.model.specs.declared.FactCell.{FactCell}

-- "any other written slot becomes Unknown": the cell where the test holds
unfoldable pub target_cell : Bool → FactCell → FactCell
target_cell true cell = cell
target_cell false cell = cell_of unknown
