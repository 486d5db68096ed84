-- What a promise says of lent slices: as records, before and after the call.
-- Assumes nothing.
use Rattle.std.specs.Prelude.{List, ℕ}
use Rattle.std.specs.Borrow.{MutBor}
use denote.Triple.Both.{Both}
use Rattle.model.specs.Call.{Table, Scratch, Lent, lent}
use Rattle.model.specs.Tables.{RowSlices, row_slices, TableSlices, table_slices}

-- a lent slice, as a promise has it
abbrev pub Slice : Type 0
Slice = Both (MutBor (List ℕ)) (MutBor (List ℕ))

-- the kinds and the values of a row
abbrev pub lent_row : Slice → Slice → Both RowSlices RowSlices
lent_row kinds values = record {
  entry = row_slices kinds.entry.now values.entry.now;
  exit = row_slices kinds.exit.now values.exit.now;
}

-- the tables of a run
abbrev pub lent_rows : Slice → Slice → Slice → Both TableSlices TableSlices
lent_rows present kinds values = record {
  entry = table_slices present.entry.now kinds.entry.now values.entry.now;
  exit = table_slices present.exit.now kinds.exit.now values.exit.now;
}

-- the output of an analysis
abbrev pub lent_table : Slice → Slice → Slice → Slice → Both Table Table
lent_table slots present kinds values = record {
  entry = record { slots = slots.entry.now; present = present.entry.now; kinds = kinds.entry.now; values = values.entry.now };
  exit = record { slots = slots.exit.now; present = present.exit.now; kinds = kinds.exit.now; values = values.exit.now };
}

-- the scratch of a call
abbrev pub lent_scratch : Slice → Slice → Slice → Slice → Slice → Both Scratch Scratch
lent_scratch marks stack row_kinds row_values work_list = record {
  entry = record { marks = marks.entry.now; stack = stack.entry.now; row_kinds = row_kinds.entry.now; row_values = row_values.entry.now; work_list = work_list.entry.now };
  exit = record { marks = marks.exit.now; stack = stack.exit.now; row_kinds = row_kinds.exit.now; row_values = row_values.exit.now; work_list = work_list.exit.now };
}

-- all that a call is lent
abbrev pub lent_call : Both Table Table → Both Table Table → Both Table Table → Both Scratch Scratch → Both Lent Lent
lent_call constants index containers scratch = record {
  entry = lent constants.entry index.entry containers.entry scratch.entry;
  exit = lent constants.exit index.exit containers.exit scratch.exit;
}
