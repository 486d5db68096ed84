-- A stage up to its run, and what it leaves in slots and row scratch that were zero.
-- Assumes nothing.
use Rattle.std.specs.Prelude.{◌≡◌, Bool, true, false, List, map, ℕ, ◌≤◌, length}
use Rattle.model.specs.Tables.{RowSlices, row_slices}
use Rattle.model.specs.Charges.{no_room, stop, Metered, give, ◌>>=◌, ◌>>◌}
use Rattle.model.specs.Closure.{tracked_slots}
use Rattle.model.specs.Fact.{kind, value, Row}
use Rattle.model.specs.Sheet.{code_count, local_slots}
use Rattle.model.specs.Analyses.{charge_matrix, first_row}
use Rattle.model.specs.Call.{zeros, filled}
use Rattle.model.specs.declared.AnalysisKind.{AnalysisKind}
use Rattle.stage_memory.specs.Room.{room_by}
use Rattle.stage_prepare.specs.declared.Room.{Room}

-- ---- definitions

-- the matrix charge and the first row, of the tracked slots
unfoldable pub entering : AnalysisKind → List ℕ → List ℕ → Metered Row
entering which sheet slots = do
  charge_matrix which sheet slots
  first_row which sheet slots

-- "8 .. No: 8."; else these
unfoldable pub enter_if : Bool → AnalysisKind → List ℕ → List ℕ → Metered Row
enter_if true which sheet slots left = entering which sheet slots left
enter_if false which sheet slots left = stop no_room left

-- What is to run: the tracked slots and the first row.
pub record Begun : Type 0 where
  pub slots : List ℕ
  pub entry : Row

-- a stage without its run; `enough` says whether the lent memory has room for s tracked slots
unfoldable pub begin : AnalysisKind → List ℕ → (ℕ → Bool) → Metered Begun
begin which sheet enough = do
  slots ← tracked_slots which sheet
  entry ← enter_if (enough (length slots)) which sheet slots
  give (record { slots = slots; entry = entry })

-- ---- what is lent

-- marks, stack and row scratch of zeros, with room for the closure
pub record MarksAndRowZero (sheet marks stack row_kinds row_values : List ℕ) : Type 0 where
  pub no_marks : marks ≡ zeros marks
  pub no_stack : stack ≡ zeros stack
  pub no_row_kinds : row_kinds ≡ zeros row_kinds
  pub no_row_values : row_values ≡ zeros row_values
  pub wide : local_slots sheet ≤ length marks
  pub deep : local_slots sheet ≤ length stack

-- question 8 for s tracked slots, by what is lent
abbrev pub enough : Room → List ℕ → List ℕ → List ℕ → List ℕ → ℕ → Bool
enough room sheet slots row_kinds row_values s =
    room_by (code_count sheet) s (length slots) room.present room.kinds room.values (length row_kinds) (length row_values) room.work_list

-- ---- what is left: the row

-- a row in the first places of a row scratch that was zero
abbrev pub row_filled : List ℕ → List ℕ → Row → RowSlices
row_filled row_kinds row_values row = row_slices (filled (map kind row) row_kinds) (filled (map value row) row_values)

-- zeros: after 7 and 8
abbrev pub cleared_row : List ℕ → List ℕ → RowSlices
cleared_row row_kinds row_values = row_slices (zeros row_kinds) (zeros row_values)
