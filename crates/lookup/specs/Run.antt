-- What a lookup answers of the rows of a run, and which part of the lent tables is used.
-- Assumes nothing.
use Rattle.std.specs.Prelude.{◌≡◌, true, false, Ok, List, ℕ, ◌*◌, length, take}
use Rattle.std.proofs.Math.Option.{Option, none, some}
use Rattle.model.specs.Sheet.{code_count}
use Rattle.model.specs.Fact.{Fact, kind, value, Row}
use Rattle.model.specs.Transfer.{fact_for}
use Rattle.model.specs.Analyses.{Analysed, Facts}
use Rattle.model.specs.Run.{row_at}
use Rattle.model.specs.Call.{Table, Lent, table_of}
use Rattle.model.specs.Lookup.{place, SlotFact, Reachability, none_found, cell_found, fact_for_slot, is_reachable, fixed_at, fixed}
use Rattle.model.specs.declared.AnalysisKind.{AnalysisKind}
use Rattle.model.specs.declared.AnalysisKind.TheVariants.{Constant, IndexCheck, Container}

-- "none" of an untracked slot, the fact's kind and value of a tracked one
unfoldable pub tracked_fact : Option ℕ → Fact → SlotFact
tracked_fact none fact = none_found
tracked_fact (some j) fact = cell_found (kind fact) (value fact)

-- "none" of an absent instruction; of a present one the run's fact
unfoldable pub run_fact : List ℕ → Option Row → ℕ → SlotFact
run_fact slots none slot = none_found
run_fact slots (some row) slot = tracked_fact (place slots slot) (fact_for slots row slot)

-- "yes" of a present instruction
unfoldable pub run_reached : Option Row → Reachability
run_reached none = Ok false
run_reached (some row) = Ok true

-- the facts of one analysis of a call
unfoldable pub analysed_of : Facts → AnalysisKind → Analysed
analysed_of facts Constant = facts.constants
analysed_of facts IndexCheck = facts.index
analysed_of facts Container = facts.containers

-- "the used parts", for n instructions and s tracked slots
unfoldable pub used : ℕ → ℕ → Table → Table
used n s table = record {
  slots = take s table.slots;
  present = take n table.present;
  kinds = take (n * s) table.kinds;
  values = take (n * s) table.values;
}

-- Lookups in the used part of an analysis' table: none refuses, and each answers what the run has.
pub record LookedUp (which : AnalysisKind) (a : Analysed) (table : Table) : Type 0 where
  pub fact : (pc slot : ℕ) → fact_for_slot which table.slots table.present table.kinds table.values pc slot ≡ run_fact a.slots (row_at a.rows pc) slot
  pub reached : (pc : ℕ) → is_reachable table.present pc ≡ run_reached (row_at a.rows pc)

-- "fixed" does not refuse either: its answer is what the instructions but 0 show
pub record FixedUp (table : Table) : Type 0 where
  pub fixed : (slot : ℕ) → fixed table.slots table.present table.kinds table.values slot
      ≡ fixed_at (length table.slots) table.present table.kinds table.values (place table.slots slot)

-- the used part of the output of an analysis, in what a call left
unfoldable pub used_of : List ℕ → Facts → Lent → AnalysisKind → Table
used_of sheet facts lent which = used (code_count sheet) (length (analysed_of facts which).slots) (table_of lent which)

-- all lookups in what a call left
pub record CallLookups (sheet : List ℕ) (facts : Facts) (lent : Lent) : Type 0 where
  pub lookups : (which : AnalysisKind) → LookedUp which (analysed_of facts which) (used_of sheet facts lent which)
  pub fixed : FixedUp (used_of sheet facts lent Constant)
