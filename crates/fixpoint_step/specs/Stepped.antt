-- What one step asks.
-- Assumes nothing.
use Rattle.std.specs.Prelude.{◌≡◌, true, List, ℕ, ◌*◌, ◌≤◌, ◌<◌, length}
use Rattle.std.proofs.Math.Option.{Option, some}
use Rattle.model.specs.Fact.{Row}
use Rattle.model.specs.Sheet.{code_count, first_range}
use Rattle.model.specs.Run.{row_at}
use Rattle.model.specs.Tables.{TableSlices, RowsLie, RowSlices}
use Rattle.model.specs.Lookup.{ascends}
use Rattle.memory.specs.Front.{Holds}
use Rattle.sheet.specs.Measured.{Accepted}
use Rattle.sheet.specs.declared.Sizes.{Sizes}
use Rattle.sheet_layouts.specs.Classes.{Classes}
use Rattle.fixpoint_step.specs.declared.lengths.LengthFact.{LengthFact}

-- What is found once a call: the first range of each instruction, the class of each layout, and room for the length facts.
pub record SheetIndex (sheet : List ℕ) (sizes : Sizes) (firsts classes : List ℕ) (lengths : List LengthFact) : Type 0 where
  pub accepted : Accepted sheet sizes
  pub firsts_are : Holds (first_range sheet) (code_count sheet) firsts
  pub classes_are : Classes sheet classes
  pub lengths_room : code_count sheet ≤ length lengths

-- The tracked slots, of which there are some, in a code that is not empty.
pub record TrackedSlots (sheet slots : List ℕ) : Type 0 where
  pub ascending : ascends slots ≡ true
  pub some_slot : 0 < length slots
  pub few_slots : length slots ≤ 65535
  pub some_code : 0 < code_count sheet
  pub little : code_count sheet ≤ 4096

-- What a step of p asks, of n instructions and s slots: tables in which rows lie, with a row for p. (The lengths follow from what lies there; arithmetic reads them.)
pub record StepRequires (n s p : ℕ) (t : TableSlices) (row : RowSlices) : Type 0 where
  pub below : p < n
  pub rows : List (Option Row)
  pub row_there : Row
  pub rows_lie : RowsLie s rows t
  pub stands : row_at rows p ≡ some row_there
  pub present_length : length t.present ≡ n
  pub kinds_length : length t.kinds ≡ n * s
  pub values_length : length t.values ≡ n * s
  pub row_kinds_length : length row.kinds ≡ s
  pub row_values_length : length row.values ≡ s
