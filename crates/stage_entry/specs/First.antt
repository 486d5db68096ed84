-- What is left in a row.
-- Assumes nothing.
use Rattle.std.specs.Prelude.{◌≡◌, List, map, ℕ, length, replicate}
use Rattle.std.proofs.Math.Option.{some}
use Rattle.model.specs.Charges.{Spent}
use Rattle.model.specs.Tables.{RowSlices, row_slices}
use Rattle.model.specs.Fact.{kind, value, Row}
use Rattle.budget.specs.Outcome.{Outcome, leaves, leaves_of}
use Rattle.fact_row.specs.Changed.{cells_in, SameRow}
use Rattle.fact_row.specs.declared.row.FactRow.{FactRow}

-- the memory in which a row lies
abbrev pub row_laid : Row → RowSlices
row_laid row = row_slices (map kind row) (map value row)

-- s zeros in each: what a refusal leaves
abbrev pub zero_row : ℕ → RowSlices
zero_row s = row_slices (replicate s 0) (replicate s 0)

-- the row that the charges come to, or zeros after a refusal
abbrev pub LeavesRow : List ℕ → Spent Row → Outcome → RowSlices → Type 0
LeavesRow slots spent outcome memory = some (leaves outcome memory) ≡ leaves_of row_laid (zero_row (length slots)) spent

-- The same in the same memory.
pub record RowLeft (spent : Spent Row) (outcome : Outcome) (old new : FactRow) : Type 0 where
  pub same : SameRow old new
  pub leaves : LeavesRow old.slots.now spent outcome (cells_in new)
