-- What the run is lent, to be written.
-- Assumes nothing.
use Rattle.std.specs.Prelude.{List, ℕ}
use denote.Triple.Both.{Both}
use Rattle.model.specs.Call.{zeros}
use Rattle.model.specs.Promise.{Slice}
use Rattle.model.specs.Tables.{TableSlices, table_slices, RowSlices, row_slices}

-- "present bytes .., and n × s kind bytes and 64-bit values", "the row scratch", "the work list"
pub record RunMemory : Type 0 where
  pub present : List ℕ
  pub kinds : List ℕ
  pub values : List ℕ
  pub row_kinds : List ℕ
  pub row_values : List ℕ
  pub work_list : List ℕ

-- from the slices
abbrev pub run_memory : List ℕ → List ℕ → List ℕ → List ℕ → List ℕ → List ℕ → RunMemory
run_memory present kinds values row_kinds row_values work_list =
    record { present = present; kinds = kinds; values = values; row_kinds = row_kinds; row_values = row_values; work_list = work_list }

-- its tables, and its row
abbrev pub run_tables : RunMemory → TableSlices
run_tables m = table_slices m.present m.kinds m.values

abbrev pub run_row : RunMemory → RowSlices
run_row m = row_slices m.row_kinds m.row_values

-- before and after the call
abbrev pub lent_run : Slice → Slice → Slice → Slice → Slice → Slice → Both RunMemory RunMemory
lent_run present kinds values row_kinds row_values work_list = record {
  entry = run_memory present.entry.now kinds.entry.now values.entry.now row_kinds.entry.now row_values.entry.now work_list.entry.now;
  exit = run_memory present.exit.now kinds.exit.now values.exit.now row_kinds.exit.now row_values.exit.now work_list.exit.now;
}

-- all of it zero
unfoldable pub zero_run : RunMemory → RunMemory
zero_run old = run_memory (zeros old.present) (zeros old.kinds) (zeros old.values) (zeros old.row_kinds) (zeros old.row_values) (zeros old.work_list)
