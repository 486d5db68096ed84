-- What demand 3 says of a whole call that ends with facts: of each analysis, the run that the call made.
-- Assumes nothing.
use Rattle.std.specs.Prelude.{◌≡◌, true, false, ℕ, ◌+◌, ◌*◌, ◌≤◌, ◌<◌, eqb, length, take}
use mathlib.Core.List.{List, ◌∷◌, Memᴰ}
use Rattle.std.proofs.Math.Option.{some}
use Rattle.std.specs.Int.Bits.{bit_and}
use Rattle.model.specs.Sheet.{code_count, local_slots, instruction}
use Rattle.model.specs.Charges.{ok}
use Rattle.model.specs.Dependencies.{dependency_bit, FactDependency, edges_to, Field, field, seed_fields, charge_dependencies}
use Rattle.model.specs.Closure.{Marked, mark, unmarked, tracked_slots}
use Rattle.model.specs.Fact.{Fact, unknown}
use Rattle.model.specs.Run.{Analysis, finished, bound, run}
use Rattle.model.specs.Analyses.{Analysed, Facts, analysis, length_facts, charge_matrix, first_row, charge_flow}
use Rattle.model.specs.Call.{Table, Lent, completed, call, tables, filled_table}
use Rattle.model.specs.Lookup.{ascends}
use Rattle.model.specs.Demand.{Final, FinalTable, Demand3}
use Rattle.model.specs.declared.Counts.{Counts}
use Rattle.model.specs.declared.VerifierResources.{VerifierResources}
use Rattle.model.specs.declared.AnalysisKind.{AnalysisKind}
use Rattle.model.specs.declared.AnalysisKind.TheVariants.{Constant, IndexCheck, Container}

-- ---- the closure

-- The slots that an analysis tracks: the seeds below L, and what its dependencies lead to from a tracked slot.
pub data Tracked (which : AnalysisKind) (sheet : List ℕ) : ℕ → Type 0 where
  seed : {slot pc : ℕ} {f : Field} → pc < code_count sheet → Memᴰ f (seed_fields which (instruction sheet pc).op)
      → slot ≡ field (instruction sheet pc) f → slot < local_slots sheet → Tracked which sheet slot
  source : {slot d : ℕ} {e : FactDependency} → Tracked which sheet d → Memᴰ e (edges_to sheet d)
      → eqb (bit_and e.kinds (dependency_bit which)) 0 ≡ false → slot ≡ e.source → Tracked which sheet slot

-- What the tracked slots are: "The result ascends", strictly and below L, and holds exactly the slots above.
pub record TrackedExactly (which : AnalysisKind) (sheet slots : List ℕ) : Type 0 where
  pub ascending : ascends slots ≡ true
  pub below : (slot : ℕ) → Memᴰ slot slots → slot < local_slots sheet
  pub only : (slot : ℕ) → Memᴰ slot slots → Tracked which sheet slot
  pub all : (slot : ℕ) → Tracked which sheet slot → Memᴰ slot slots

-- The states of marks and stack that a closure passes through, also between two edges of a slot.
pub data Passed (sheet : List ℕ) : Marked → Type 0 where
  begun : {m : Marked} → m ≡ unmarked sheet → Passed sheet m
  marking : {m m' : Marked} → Passed sheet m → (slot : ℕ) → m' ≡ mark slot m → Passed sheet m'
  taking : {m m' : Marked} {d : ℕ} {ds : List ℕ} → Passed sheet m → m.stack ≡ d ∷ ds → m' ≡ record { marks = m.marks; stack = ds } → Passed sheet m'

-- ---- one analysis of a call

-- The run of an analysis that was fed and ended so.
abbrev pub analysis_of : AnalysisKind → List ℕ → (ℕ → Fact) → Analysed → Analysis
analysis_of which sheet length_fact a = analysis which sheet a.slots length_fact a.entry

-- How an analysis of a call came about, from the budget before it to the budget after it: its slots are what the closure gave, its first
-- row what the parameters gave, its budget what was left at that point.
pub record Made (which : AnalysisKind) (sheet : List ℕ) (length_fact : ℕ → Fact) (before : VerifierResources) (a : Analysed) (after : VerifierResources) : Type 0 where
  pub closed : VerifierResources
  pub tracked : tracked_slots which sheet before ≡ ok a.slots closed
  pub charged : VerifierResources
  pub matrix : charge_matrix which sheet a.slots closed ≡ ok tt charged
  pub entry : first_row which sheet a.slots charged ≡ ok a.entry a.started
  pub ran : run (analysis_of which sheet length_fact a) a.started.work ≡ finished a.rows a.pops after.work
  pub bytes : after.bytes ≡ a.started.bytes

-- Demand 3 of an analysis of a call: of its slots, of its run, of its rows, and of its tables in memory.
pub record Demanded (which : AnalysisKind) (sheet : List ℕ) (length_fact : ℕ → Fact) (a : Analysed) : Type 0 where
  pub slots : TrackedExactly which sheet a.slots
  pub run : Demand3 (analysis_of which sheet length_fact a) a.started.work
  pub pops : a.pops ≤ bound (analysis_of which sheet length_fact a)
  pub rows : 0 < code_count sheet → 0 < length a.slots → Final (analysis_of which sheet length_fact a) a.rows
  -- of the tables as they lie in what was lent, whatever that held before
  pub memory : (old : Table) → 0 < code_count sheet → 0 < length a.slots
      → FinalTable (analysis_of which sheet length_fact a) (filled_table (tables a) old).present (filled_table (tables a) old).kinds (filled_table (tables a) old).values

-- ---- the three

-- the facts of a call, from the budget it was given to the budget left
pub record CallDemand (sheet : List ℕ) (budget : VerifierResources) (facts : Facts) (left : VerifierResources) : Type 0 where
  pub after_flow : VerifierResources
  pub flow : charge_flow sheet budget ≡ ok tt after_flow
  pub after_dependencies : VerifierResources
  pub dependencies : charge_dependencies sheet after_flow ≡ ok tt after_dependencies
  pub after_constants : VerifierResources
  pub constants_made : Made Constant sheet (λ pc. unknown) after_dependencies facts.constants after_constants
  pub after_index : VerifierResources
  pub index_made : Made IndexCheck sheet (length_facts sheet facts.constants) after_constants facts.index after_index
  pub containers_made : Made Container sheet (λ pc. unknown) after_index facts.containers left
  pub constants : Demanded Constant sheet (λ pc. unknown) facts.constants
  pub index : Demanded IndexCheck sheet (length_facts sheet facts.constants) facts.index
  pub containers : Demanded Container sheet (λ pc. unknown) facts.containers

-- ---- the lent memory

-- Demand 3 of one analysis' answer and output: s and the slots are the analysis' own, the bound on pops holds always, and with n and s above zero the
-- lent tables are final.
pub record TableDemand (which : AnalysisKind) (sheet : List ℕ) (length_fact : ℕ → Fact) (a : Analysed) (given : Counts) (table : Table) : Type 0 where
  pub tracked : given.tracked ≡ length a.slots
  pub slots : take given.tracked table.slots ≡ a.slots
  pub pops : given.pops ≤ code_count sheet * (1 + 2 * given.tracked)
  pub final : 0 < code_count sheet → 0 < given.tracked → FinalTable (analysis_of which sheet length_fact a) table.present table.kinds table.values

-- Demand 3 as a caller sees it: of an answer with facts, and of what is lent afterwards. The facts are those of the call itself.
pub record LentDemand (sheet : List ℕ) (budget : VerifierResources) (before : Lent) (constant index container : Counts) (left : VerifierResources) (after : Lent) : Type 0 where
  pub facts : Facts
  pub ended : call sheet budget before ≡ some (completed facts left)
  pub constants_final : TableDemand Constant sheet (λ pc. unknown) facts.constants constant after.constants
  pub index_final : TableDemand IndexCheck sheet (length_facts sheet facts.constants) facts.index index after.index
  pub containers_final : TableDemand Container sheet (λ pc. unknown) facts.containers container after.containers
