-- The table of length facts, as it lies in memory.
-- Assumes nothing.
use Rattle.std.specs.Prelude.{List, map, ℕ}
use Rattle.model.specs.Fact.{Fact}
use Rattle.model.specs.Tables.{length_table}
use Rattle.fixpoint_step.specs.declared.lengths.LengthFact.{LengthFact}

-- the table that their kinds and their values make
unfoldable pub lengths_in : List LengthFact → ℕ → Fact
lengths_in facts = length_table (map (λ (f : LengthFact). f.kind) facts) (map (λ (f : LengthFact). f.value) facts)
