-- The line of a cell, rows as they lie in the tables, and an analysis as a program writes it, line after line.
-- Assumes nothing.
use Rattle.std.specs.Prelude.{Bool, true, false, List, ◌++◌, ℕ, ◌*◌, eqb, get_or, take, drop}
use Rattle.std.proofs.Math.Option.{Option, none, some}
use Rattle.model.specs.Count.{collect}
use Rattle.model.specs.Fact.{Fact, Row}
use Rattle.model.specs.Tables.{facts_of}
use Rattle.model.specs.Call.{Table}
use Rattle.model.specs.Listing.{decimal, space, newline, present_lines, head_line}
use Rattle.model.specs.declared.Counts.{Counts}
use Rattle.model.specs.declared.AnalysisKind.{AnalysisKind}

-- "Cells: pc, slot, fact"
unfoldable pub cell_line : (Fact → List ℕ) → ℕ → ℕ → Fact → List ℕ
cell_line text pc slot f = decimal pc ++ space ++ decimal slot ++ space ++ text f ++ newline

-- a row that is there or not
unfoldable pub present_row : Bool → Row → Option Row
present_row true row = some row
present_row false row = none

-- the row of a present byte and its parts of kinds and values; none unless the byte is 1
unfoldable pub table_row_of : ℕ → List ℕ → List ℕ → Option Row
table_row_of byte kinds values = present_row (eqb byte 1) (facts_of kinds values)

-- ---- an analysis

-- the row of instruction pc, s cells to a row
unfoldable pub row_of : ℕ → List ℕ → List ℕ → List ℕ → ℕ → Option Row
row_of s present kinds values pc = table_row_of (get_or present pc 0) (take s (drop (pc * s) kinds)) (take s (drop (pc * s) values))

-- the same of a table
abbrev pub row_in : ℕ → Table → ℕ → Option Row
row_in s table pc = row_of s table.present table.kinds table.values pc

-- the head of an analysis, and the lines of its n rows in order
unfoldable pub printed_analysis : AnalysisKind → (Fact → List ℕ) → ℕ → Counts → Table → List ℕ
printed_analysis which text n c table =
    head_line which n c.tracked c.pops ++ collect (λ pc. present_lines text pc (take c.tracked table.slots) (row_in c.tracked table pc)) n
