-- What a stage makes of the lent memory.
-- Assumes nothing.
use Rattle.std.specs.Prelude.{Bool, true, false, ℕ}
use Rattle.model.specs.Call.{Table, Scratch, scratch, zeros, zero_table}
use Rattle.model.specs.declared.Counts.{Counts}

-- scratch that is all zero
unfoldable pub zero_scratch : Scratch → Scratch
zero_scratch old = scratch (zeros old.marks) (zeros old.stack) (zeros old.row_kinds) (zeros old.row_values) (zeros old.work_list)

-- an output cleared where the test holds
unfoldable pub table_if : Bool → Table → Table
table_if true old = zero_table old
table_if false old = old

-- "s and the pop count of each analysis"; none where the test holds
unfoldable pub counts_if : Bool → ℕ → ℕ → Counts
counts_if true s pops = record { tracked = 0; pops = 0 }
counts_if false s pops = record { tracked = s; pops = pops }
