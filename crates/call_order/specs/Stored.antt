-- The output of the constant analysis, from which the length facts are found.
-- Assumes nothing.
use Rattle.std.specs.Prelude.{◌≡◌, true, List, ℕ, ◌*◌, ◌≤◌, ◌<◌, length, take}
use Rattle.model.specs.Call.{Table}
use Rattle.model.specs.Sheet.{code_count, instruction}
use Rattle.model.specs.Tables.{RowsLie, table_slices}
use Rattle.model.specs.Analyses.{Analysed, length_facts}
use Rattle.model.specs.Lookup.{ascends}
use Rattle.model.specs.declared.Counts.{Counts}
use Rattle.fixpoint_step.specs.Lengths.{lengths_in}
use Rattle.fixpoint_step.specs.declared.lengths.LengthFact.{LengthFact}
use Rattle.call_order.specs.Lengths.{lengths_stored}
use Rattle.model.specs.Transfer.{checked_from}

-- the tables of an ended analysis in the first places of an output
pub record Stored (sheet : List ℕ) (a : Analysed) (given : Counts) (t : Table) : Type 0 where
  pub tracked_is : given.tracked ≡ length a.slots
  pub ascending : ascends a.slots ≡ true
  pub few : length a.slots ≤ 65535
  pub rows_count : length a.rows ≡ code_count sheet
  pub slots_fit : length a.slots ≤ length t.slots
  pub present_fits : code_count sheet ≤ length t.present
  pub kinds_fit : code_count sheet * length a.slots ≤ length t.kinds
  pub values_fit : code_count sheet * length a.slots ≤ length t.values
  pub slots_are : take (length a.slots) t.slots ≡ a.slots
  pub lie : RowsLie (length a.slots) a.rows
      (table_slices (take (code_count sheet) t.present) (take (code_count sheet * length a.slots) t.kinds) (take (code_count sheet * length a.slots) t.values))

-- the length facts of its rows in the first n places, at each IndexCheck what it makes of the ended run's fact of b
pub record Lengthened (sheet : List ℕ) (a : Analysed) (lengths lengths' : List LengthFact) : Type 0 where
  pub lengths_are : lengths' ≡ lengths_stored sheet a.slots a.rows lengths
  pub read : (pc : ℕ) → pc < code_count sheet → (instruction sheet pc).op ≡ 121 → checked_from (lengths_in lengths' pc) ≡ checked_from (length_facts sheet a pc)
