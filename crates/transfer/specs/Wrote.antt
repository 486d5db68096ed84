-- What writing into a row leaves.
-- Assumes nothing.
use Rattle.std.specs.Prelude.{◌≡◌, Bool, cond, List, ℕ, ◌<◌, length, get_or}
use Rattle.model.specs.Tables.{RowSlices}
use Rattle.model.specs.declared.FactCell.{FactCell}

-- Where `writes` holds of a place's slot, `cell`'s kind and value; at every other place what stood there, facts or not.
pub record Wrote (slots : List ℕ) (writes : ℕ → Bool) (cell : ℕ → FactCell) (old new : RowSlices) : Type 0 where
  pub kinds_long : length new.kinds ≡ length slots
  pub values_long : length new.values ≡ length slots
  pub kinds_are : (k : ℕ) → k < length slots → get_or new.kinds k 0 ≡ cond (writes (get_or slots k 0)) (cell (get_or slots k 0)).kind (get_or old.kinds k 0)
  pub values_are : (k : ℕ) → k < length slots → get_or new.values k 0 ≡ cond (writes (get_or slots k 0)) (cell (get_or slots k 0)).value (get_or old.values k 0)
