-- The lent memory of an analysis, as the definitions have it.
-- Assumes nothing.
use Rattle.std.specs.Prelude.{◌≡◌, List, ℕ, length}
use Rattle.std.specs.Borrow.{MutBor}
use Rattle.model.specs.Call.{Table, Scratch, Lent, table, scratch, lent}
use Rattle.stage_memory.specs.declared.lent.LentTable.{LentTable}
use Rattle.stage_memory.specs.declared.lent.LentScratch.{LentScratch}

-- the output of an analysis
abbrev pub table_in : LentTable → Table
table_in t = table t.slots.now t.present.now t.kinds.now t.values.now

-- the scratch
abbrev pub scratch_in : LentScratch → Scratch
scratch_in w = scratch w.marks.now w.stack.now w.row_kinds.now w.row_values.now w.work_list.now

-- all that is lent
abbrev pub lent_in : LentTable → LentTable → LentTable → LentScratch → Lent
lent_in constants index containers w = lent (table_in constants) (table_in index) (table_in containers) (scratch_in w)

-- a slice that is still the same memory, as long as before
pub record SameSlice (old new : MutBor (List ℕ)) : Type 0 where
  pub same_memory : new.ghost_name ≡ old.ghost_name
  pub same_length : length new.now ≡ length old.now

pub record SameTable (old new : LentTable) : Type 0 where
  pub slots : SameSlice old.slots new.slots
  pub present : SameSlice old.present new.present
  pub kinds : SameSlice old.kinds new.kinds
  pub values : SameSlice old.values new.values

pub record SameScratch (old new : LentScratch) : Type 0 where
  pub marks : SameSlice old.marks new.marks
  pub stack : SameSlice old.stack new.stack
  pub row_kinds : SameSlice old.row_kinds new.row_kinds
  pub row_values : SameSlice old.row_values new.row_values
  pub work_list : SameSlice old.work_list new.work_list
