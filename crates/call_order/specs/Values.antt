-- The first two analyses, and what they leave.
-- Assumes nothing.
use Rattle.std.specs.Prelude.{Bool, List, ℕ}
use Rattle.model.specs.Charges.{Metered, give, ◌>>=◌, ◌>>◌}
use Rattle.model.specs.Fact.{unknown}
use Rattle.model.specs.Analyses.{Analysed, length_facts, stage}
use Rattle.model.specs.Call.{Table, Scratch, counts, tables, zero_table, filled_table}
use Rattle.model.specs.declared.AnalysisKind.TheVariants.{Constant, IndexCheck}
use Rattle.model.specs.declared.Counts.{Counts}
use Rattle.stage_memory.specs.Stage.{zero_scratch}
use Rattle.closure_edges.specs.GraphCharges.{charge_graph}
use Rattle.stage_memory.specs.Staged.{no_counts}

-- The ended constant and index analyses.
pub record ValueFacts : Type 0 where
  pub constants : Analysed
  pub index : Analysed

abbrev pub value_facts : Analysed → Analysed → ValueFacts
value_facts constants index = record { constants = constants; index = index }

-- "Order: flow graph, dependencies, constants, index": each with its answer to question 8
unfoldable pub values : List ℕ → (ℕ → Bool) → (ℕ → Bool) → Metered ValueFacts
values sheet constants_room index_room = do
  charge_graph sheet
  constants ← stage Constant sheet constants_room (λ pc. unknown)
  index ← stage IndexCheck sheet index_room (length_facts sheet constants)
  give (value_facts constants index)

-- What they leave: their counts, their outputs and the scratch.
pub record ValuesLeft : Type 0 where
  pub constant_counts : Counts
  pub index_counts : Counts
  pub constants : Table
  pub index : Table
  pub scratch : Scratch

abbrev pub valued : Counts → Counts → Table → Table → Scratch → ValuesLeft
valued constant_counts index_counts constants index scratch =
    record { constant_counts = constant_counts; index_counts = index_counts; constants = constants; index = index; scratch = scratch }

-- "Success leaves scratch and unused output zero"
unfoldable pub valued_by : Table → Table → Scratch → ValueFacts → ValuesLeft
valued_by constants index w v =
    valued (counts v.constants) (counts v.index) (filled_table (tables v.constants) constants) (filled_table (tables v.index) index) (zero_scratch w)

-- "After 7 and 8 all lent output and scratch is zero"
unfoldable pub no_values : Table → Table → Scratch → ValuesLeft
no_values constants index w = valued no_counts no_counts (zero_table constants) (zero_table index) (zero_scratch w)
