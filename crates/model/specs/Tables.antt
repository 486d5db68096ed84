-- "Tables": how the rows of a run, and its work list, lie in lent memory.
-- Assumes nothing.
use Rattle.std.specs.Prelude.{◌≡◌, List, [], ◌∷◌, ◌++◌, map, reverse, ℕ, zero, suc, ◌*◌, ◌-◌, length, get_or, replicate, take, drop}
use Rattle.std.proofs.Math.Option.{Option, none, some}
use Rattle.model.specs.Fact.{Fact, unknown, conflict, known, kind, value, Row}
use Rattle.model.specs.Run.{row_at}
use Rattle.model.specs.declared.FactCell.{FactCell}

-- ---- from rows to tables

-- one present byte, "0 or 1"
unfoldable pub present_byte : Option Row → ℕ
present_byte none = 0
present_byte (some r) = 1

-- "present bytes (n, 0 or 1)"
unfoldable pub present_bytes : List (Option Row) → List ℕ
present_bytes [] = []
present_bytes (o ∷ os) = present_byte o ∷ present_bytes os

-- One row's s cells, by `kind` or by `value`. "Absent rows are zero."
unfoldable pub row_cells : (Fact → ℕ) → ℕ → Option Row → List ℕ
row_cells f s none = replicate s 0
row_cells f s (some r) = map f r

-- "n × s kind bytes and 64-bit values"
unfoldable pub cells : (Fact → ℕ) → ℕ → List (Option Row) → List ℕ
cells f s [] = []
cells f s (o ∷ os) = row_cells f s o ++ cells f s os

-- "present bytes (n, 0 or 1), and n × s kind bytes and 64-bit values"
pub record TableSlices : Type 0 where
  pub present : List ℕ
  pub kinds : List ℕ
  pub values : List ℕ

abbrev pub table_slices : List ℕ → List ℕ → List ℕ → TableSlices
table_slices present kinds values = record { present = present; kinds = kinds; values = values }

-- the rows lie in the tables, each of s facts
pub record RowsLie (s : ℕ) (rows : List (Option Row)) (t : TableSlices) : Type 0 where
  pub sized : (p : ℕ) (row : Row) → row_at rows p ≡ some row → length row ≡ s
  pub present_are : t.present ≡ present_bytes rows
  pub kinds_are : t.kinds ≡ cells kind s rows
  pub values_are : t.values ≡ cells value s rows

-- "the row of an instruction is handed on as a part of both": the kinds and the values of a row
pub record RowSlices : Type 0 where
  pub kinds : List ℕ
  pub values : List ℕ

abbrev pub row_slices : List ℕ → List ℕ → RowSlices
row_slices kinds values = record { kinds = kinds; values = values }

-- the row lies in them
pub record RowLies (row : Row) (r : RowSlices) : Type 0 where
  pub kinds_are : r.kinds ≡ map kind row
  pub values_are : r.values ≡ map value row

-- The work list in its buffer of `room` numbers: the entry added last lies highest, and zeros above it.
unfoldable pub stacked : ℕ → List ℕ → List ℕ
stacked room list = reverse list ++ replicate (room - length list) 0

-- ---- from tables to rows

-- the fact that a kind and a value stand for; "Kind 0 Unknown, 1 Conflict, value 0"
unfoldable pub fact_of : ℕ → ℕ → Fact
fact_of zero v = unknown
fact_of (suc zero) v = conflict
fact_of (suc (suc k)) v = known k v

-- the fact of a cell
unfoldable pub fact_in : FactCell → Fact
fact_in cell = fact_of cell.kind cell.value

-- "kind byte and 64-bit value": the cell of a fact
unfoldable pub cell_of : Fact → FactCell
cell_of f = record { kind = kind f; value = value f }

-- the facts of as many kinds and values
unfoldable pub facts_of : List ℕ → List ℕ → Row
facts_of [] values = []
facts_of (k ∷ kinds) [] = []
facts_of (k ∷ kinds) (v ∷ values) = fact_of k v ∷ facts_of kinds values

-- the facts of a row's slices
abbrev pub facts_in : RowSlices → Row
facts_in r = facts_of r.kinds r.values

-- "the row of an instruction is handed on as a part of both": the s cells of kinds and of values from p × s
unfoldable pub table_row : ℕ → List ℕ → List ℕ → ℕ → Row
table_row s kinds values p = facts_of (take s (drop (p * s) kinds)) (take s (drop (p * s) values))

-- "for index, the ended constant run": its facts of b, one for each instruction, in two tables
unfoldable pub length_table : List ℕ → List ℕ → ℕ → Fact
length_table kinds values pc = fact_of (get_or kinds pc 0) (get_or values pc 0)

unfoldable pub tables_compute : Unit {0}
unfolding present_byte present_bytes row_cells cells stacked fact_of fact_in cell_of facts_of table_row length_table
tables_compute = tt
