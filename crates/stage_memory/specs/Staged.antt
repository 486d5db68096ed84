-- What an analysis asks, and what it answers and leaves.
-- Assumes nothing.
use Rattle.std.specs.Prelude.{◌≡◌, List, ℕ, ◌≤◌, length}
use Rattle.model.specs.Sheet.{local_slots}
use Rattle.model.specs.Analyses.{Analysed}
use Rattle.model.specs.Call.{Table, Scratch, counts, tables, zeros, filled_table}
use Rattle.model.specs.declared.Counts.{Counts}
use Rattle.stage_memory.specs.Stage.{zero_scratch}

-- scratch of zeros, with room for the closure
pub record ScratchZero (sheet : List ℕ) (w : Scratch) : Type 0 where
  pub no_marks : w.marks ≡ zeros w.marks
  pub no_stack : w.stack ≡ zeros w.stack
  pub no_row_kinds : w.row_kinds ≡ zeros w.row_kinds
  pub no_row_values : w.row_values ≡ zeros w.row_values
  pub no_list : w.work_list ≡ zeros w.work_list
  pub wide : local_slots sheet ≤ length w.marks
  pub deep : local_slots sheet ≤ length w.stack

-- "s and the pop count of each analysis", of one that did not end
abbrev pub no_counts : Counts
no_counts = record { tracked = 0; pops = 0 }

-- The counts of an analysis, its output and the scratch behind it.
pub record StageLeft : Type 0 where
  pub counted : Counts
  pub output : Table
  pub scratch : Scratch

abbrev pub staged : Counts → Table → Scratch → StageLeft
staged counted output scratch = record { counted = counted; output = output; scratch = scratch }

-- "Success leaves scratch and unused output zero"
unfoldable pub staged_by : Table → Scratch → Analysed → StageLeft
staged_by old w a = staged (counts a) (filled_table (tables a) old) (zero_scratch w)
