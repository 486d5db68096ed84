-- What the readers and the writers of a row ask, and where a slot stands among the tracked ones.
-- Assumes nothing.
use Rattle.std.specs.Prelude.{◌≡◌, true, List, ℕ, ◌≤◌, ◌<◌, length, get_or}
use Rattle.model.specs.Lookup.{ascends}
use Rattle.model.specs.Tables.{row_slices, RowLies, facts_of}

-- what the readers of a row ask: the slots ascend, and kinds and values hold a fact for each
pub record ReadableRow (slots kinds values : List ℕ) : Type 0 where
  pub ascending : ascends slots ≡ true
  pub kinds_long : length kinds ≡ length slots
  pub values_long : length values ≡ length slots
  pub lies : RowLies (facts_of kinds values) (row_slices kinds values)

-- what a writer of a row asks: the slots ascend, and kinds and values have a place for each
pub record WritableRow (slots kinds values : List ℕ) : Type 0 where
  pub ascending : ascends slots ≡ true
  pub kinds_long : length kinds ≡ length slots
  pub values_long : length values ≡ length slots

-- how many of the slots lie below the given one: those before r do, and no others
pub record Bound (slots : List ℕ) (slot r : ℕ) : Type 0 where
  pub within : r ≤ length slots
  pub below : (k : ℕ) → k < r → get_or slots k 0 < slot
  pub above : (k : ℕ) → r ≤ k → k < length slots → slot ≤ get_or slots k 0
