-- Rows as they lie in cells.
-- Assumes nothing.
use mathlib.Core.Path.{◌≡◌, sym, ◌∙◌}
use mathlib.Core.List.{List}
use Prim.Native.Nat.{ℕ}
use lib.ListN.{length, get_or, get_or-map}
use Rattle.model.specs.Fact.{unknown, kind, value, Row}
use Rattle.model.specs.Tables.{row_slices, RowLies, cell_of, facts_of}
use Rattle.model.proofs.Facts.{lies_kinds}
use Rattle.fact_row.proofs.Facts.{fact_cell}
use Rattle.fact_row.specs.Rows.{ReadableRow}

-- the cell at a place
pub cell_at : {row : Row} {kinds values : List ℕ} → RowLies row (row_slices kinds values) → (k : ℕ) → fact_cell (get_or kinds k 0) (get_or values k 0) ≡ cell_of (get_or row k unknown)
unfolding cell_of kind value
cell_at {row} {kinds} {values} l k =
    rw (l.kinds_are, l.values_are, get_or-map kind row k unknown, get_or-map value row k unknown)

-- as many facts as slots
pub row_long : {slots kinds values : List ℕ} → ReadableRow slots kinds values → length (facts_of kinds values) ≡ length slots
row_long t = sym (lies_kinds t.lies) ∙ t.kinds_long
