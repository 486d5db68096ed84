-- The three `analyze` functions: closure, question 8, charges and run, once for the three.
-- Assumes nothing.
use Rattle.std.specs.Prelude.{Bool, true, false, ◌||◌, List, ℕ, ◌*◌, eqb, length, replicate}
use Rattle.std.proofs.Math.Option.{Option, none, some}
use Rattle.model.specs.Sheet.{code_count, instruction, sheet_compute}
use Rattle.model.specs.Successors.{sheet_successors, successors_compute}
use Rattle.model.specs.Charges.{units, over_budget, no_room, ok, stop, unfinished, Metered, give, ◌>>=◌, ◌>>◌, spend_bytes, spend_work, charges_compute}
use Rattle.model.specs.Dependencies.{charge_dependencies, dependencies_compute}
use Rattle.model.specs.Closure.{stage_number, tracked_slots, closure_compute}
use Rattle.model.specs.Fact.{Fact, unknown, Row, equal_known}
use Rattle.model.specs.Transfer.{fact_for, transfer_row, transfer_compute}
use Rattle.model.specs.Parameters.{param_start, param_row, charge_instruction_facts, parameters_compute}
use Rattle.model.specs.Run.{Analysis, RunEnd, finished, overdrawn, fuel_spent, row_at, run, run_compute}
use Rattle.model.specs.declared.VerifierResources.{VerifierResources}
use Rattle.model.specs.declared.AnalysisKind.{AnalysisKind}
use Rattle.model.specs.declared.AnalysisKind.TheVariants.{Constant, IndexCheck, Container}

-- ---- the defined run of an analysis

-- "a row of Unknown"
unfoldable pub unknown_row : List ℕ → Row
unknown_row slots = replicate (length slots) unknown

-- "It is fed the sheet, the tracked slots, .. and, for index, the ended constant run" (`length_fact pc` is its fact of b before pc), and its first row.
unfoldable pub analysis : AnalysisKind → List ℕ → List ℕ → (ℕ → Fact) → Row → Analysis
analysis which sheet slots length_fact entry = record {
  n = code_count sheet;
  s = length slots;
  successors = sheet_successors sheet;
  transfer = transfer_row which sheet slots length_fact;
  same = equal_known which sheet;
  entry = entry;
}

-- What one analysis was fed and ended with: its tracked slots, its first row and the budget at the start of its run, then its rows and its pop count.
pub record Analysed : Type 0 where
  pub slots : List ℕ
  pub entry : Row
  pub started : VerifierResources
  pub rows : List (Option Row)
  pub pops : ℕ

-- `ConstantFactAnalysis::fact_for_slot`, with Unknown for none
unfoldable pub row_fact : List ℕ → Option Row → ℕ → Fact
row_fact slots none slot = unknown
row_fact slots (some row) slot = fact_for slots row slot

-- "the ended constant run": its fact of b before instruction pc
unfoldable pub length_facts : List ℕ → Analysed → ℕ → Fact
length_facts sheet constants pc = row_fact constants.slots (row_at constants.rows pc) (instruction sheet pc).b

-- ---- the parts of a stage

-- "8 .. No: 8."
unfoldable pub ask_room : Bool → Metered (Unit {0})
ask_room true left = ok tt left
ask_room false left = stop no_room left

-- the unit of a fact of an analysis
unfoldable pub fact_bytes : AnalysisKind → ℕ
fact_bytes Constant = units.constant_fact
fact_bytes IndexCheck = units.index_fact
fact_bytes Container = units.container_fact

-- "its matrix charge": n × s facts; nothing where s or n is zero
unfoldable pub charge_matrix : AnalysisKind → List ℕ → List ℕ → Metered (Unit {0})
charge_matrix which sheet slots = spend_bytes (stage_number which) (code_count sheet * length slots * fact_bytes which)

-- "for containers with the Parameters facts in it": the parameters' charges, then those of the notes' facts
unfoldable pub container_row : Bool → List ℕ → List ℕ → Metered Row
container_row true sheet slots = give (unknown_row slots)
container_row false sheet slots = do
  entry ← param_row sheet slots (param_start sheet) (unknown_row slots)
  charge_instruction_facts sheet
  give entry

-- the first row. "With s or n zero it ends at once": then nothing is charged for it.
unfoldable pub first_row : AnalysisKind → List ℕ → List ℕ → Metered Row
first_row Constant sheet slots = give (unknown_row slots)
first_row IndexCheck sheet slots = give (unknown_row slots)
first_row Container sheet slots = container_row (eqb (code_count sheet) 0 || eqb (length slots) 0) sheet slots

-- How the run's end goes on in the call: "a refused one ends it with 7".
unfoldable pub ran_to : RunEnd → AnalysisKind → List ℕ → Row → Metered Analysed
ran_to (finished rows count left) which slots entry started =
    ok (record { slots = slots; entry = entry; started = started; rows = rows; pops = count }) (record { bytes = started.bytes; work = left })
ran_to (overdrawn requested remaining) which slots entry started =
    stop (over_budget (stage_number which) requested remaining) (record { bytes = started.bytes; work = remaining })
ran_to fuel_spent which slots entry started = unfinished

-- "Charges fall in it as in the Rust": the run spends work only
unfoldable pub propagate : AnalysisKind → List ℕ → List ℕ → (ℕ → Fact) → Row → Metered Analysed
propagate which sheet slots length_fact entry started = ran_to (run (analysis which sheet slots length_fact entry) started.work) which slots entry started

-- "Each analysis is asked 8 after its closure, before its matrix charge.": `enough` says whether the lent memory has room for s tracked slots.
unfoldable pub stage : AnalysisKind → List ℕ → (ℕ → Bool) → (ℕ → Fact) → Metered Analysed
stage which sheet enough length_fact = do
  slots ← tracked_slots which sheet
  ask_room (enough (length slots))
  charge_matrix which sheet slots
  entry ← first_row which sheet slots
  propagate which sheet slots length_fact entry

-- ---- all three

-- The ended analyses.
pub record Facts : Type 0 where
  pub constants : Analysed
  pub index : Analysed
  pub containers : Analysed

-- `FunctionCfg::build` of n instructions: a successor record for each
abbrev pub flow_of : ℕ → Metered (Unit {0})
flow_of n = do
  spend_bytes 1 (n * units.successor_record)
  spend_work 1 n

-- "flow graph": the sheet's
unfoldable pub charge_flow : List ℕ → Metered (Unit {0})
charge_flow sheet = flow_of (code_count sheet)

-- "Order: flow graph, dependencies, constants, index, containers." `room` says for each analysis whether there is room for s tracked slots.
unfoldable pub analyses : List ℕ → (AnalysisKind → ℕ → Bool) → Metered Facts
analyses sheet room = do
  charge_flow sheet
  charge_dependencies sheet
  constants ← stage Constant sheet (room Constant) (λ pc. unknown)
  index ← stage IndexCheck sheet (room IndexCheck) (length_facts sheet constants)
  containers ← stage Container sheet (room Container) (λ pc. unknown)
  give (record { constants = constants; index = index; containers = containers })

unfoldable pub analyses_compute : Unit {0}
unfolding sheet_compute successors_compute charges_compute dependencies_compute closure_compute transfer_compute parameters_compute run_compute
    unknown_row analysis row_fact length_facts ask_room fact_bytes charge_matrix container_row first_row ran_to propagate stage charge_flow analyses
analyses_compute = tt
