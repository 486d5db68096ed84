-- What the join of a row leaves.
-- Assumes nothing.
use Rattle.std.specs.Prelude.{◌≡◌, Bool, ℕ}
use Rattle.model.specs.Fact.{row_differs, join_row}
use Rattle.model.specs.Tables.{RowSlices, RowLies, facts_in}

-- "joined into it slot by slot, the old fact first": the joined row, and whether "a kind or value changed"
pub record JoinedRow (same : ℕ → ℕ → ℕ → ℕ → Bool) (old new after : RowSlices) (changed : Bool) : Type 0 where
  pub lies : RowLies (join_row same (facts_in old) (facts_in new)) after
  pub changed_is : changed ≡ row_differs (facts_in old) (join_row same (facts_in old) (facts_in new))
