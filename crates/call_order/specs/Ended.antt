-- The tables of an ended run, as a value that borrows them.
-- Assumes nothing.
use Rattle.std.specs.Prelude.{List}
use Rattle.std.proofs.Math.Option.{Option}
use Rattle.model.specs.Fact.{Row}
use Rattle.model.specs.Tables.{table_slices}
use Rattle.call_order.specs.Lengths.{EndedRows}
use Rattle.call_order.specs.declared.facts.EndedTables.{EndedTables}

-- they are those of these rows
abbrev pub Holds : EndedTables → List (Option Row) → Type 0
Holds t rows = EndedRows t.slots.now rows (table_slices t.present.now t.kinds.now t.values.now)
