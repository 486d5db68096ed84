-- What a function makes of a row that is written.
-- Assumes nothing.
use Rattle.std.specs.Prelude.{◌≡◌, ℕ, length, replicate}
use Rattle.model.specs.Lookup.{place}
use Rattle.model.specs.Tables.{RowSlices, row_slices}
use Rattle.model.specs.declared.FactCell.{FactCell}
use Rattle.fact_row.specs.Place.{set_at}
use Rattle.fact_row.specs.declared.row.FactRow.{FactRow}

-- the kinds and the values that lie there
abbrev pub cells_in : FactRow → RowSlices
cells_in row = row_slices row.kinds.now row.values.now

-- The slots stay, and so does the memory that is lent for kinds and values.
pub record SameRow (old new : FactRow) : Type 0 where
  pub slots : new.slots.now ≡ old.slots.now
  pub kinds : new.kinds.ghost_name ≡ old.kinds.ghost_name
  pub values : new.values.ghost_name ≡ old.values.ghost_name

-- The fact of a slot is set, if the slot is tracked.
pub record FactSet (slot : ℕ) (cell : FactCell) (old new : FactRow) : Type 0 where
  pub same : SameRow old new
  pub kinds_are : new.kinds.now ≡ set_at (place old.slots.now slot) old.kinds.now cell.kind
  pub values_are : new.values.now ≡ set_at (place old.slots.now slot) old.values.now cell.value

-- A zero for each slot, as Unknown lies.
pub record RowZero (row : FactRow) : Type 0 where
  pub kinds_zero : row.kinds.now ≡ replicate (length row.slots.now) 0
  pub values_zero : row.values.now ≡ replicate (length row.slots.now) 0
