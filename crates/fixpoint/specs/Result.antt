-- What the run answers and leaves.
-- Assumes nothing.
use Rattle.std.specs.Prelude.{ℕ, length, Result, Ok, Err}
use Rattle.model.specs.Closure.{stage_number}
use Rattle.model.specs.Fact.{kind, value}
use Rattle.model.specs.Tables.{present_bytes, cells}
use Rattle.model.specs.Analyses.{Analysed}
use Rattle.model.specs.declared.AnalysisKind.{AnalysisKind}
use Rattle.model.specs.declared.VerifierResources.{VerifierResources}
use Rattle.budget.specs.Outcome.{Outcome}
use Rattle.budget.specs.declared.Refused.{Refused}
use Rattle.budget.specs.declared.Refused.TheVariants.{OverBudget}
use Rattle.fixpoint.specs.declared.Ran.{Ran}
use Rattle.fixpoint.specs.Memory.{RunMemory, run_memory}

-- Pop count and memory behind a run.
pub record RunLeft : Type 0 where
  pub pops : ℕ
  pub memory : RunMemory

abbrev pub ran : ℕ → RunMemory → RunLeft
ran pops memory = record { pops = pops; memory = memory }

-- "its rows are the tables, its count the pop count"; row scratch and work list as given
unfoldable pub ran_tables : RunMemory → Analysed → RunLeft
ran_tables other a =
    ran a.pops (run_memory (present_bytes a.rows) (cells kind (length a.slots) a.rows) (cells value (length a.slots) a.rows)
    other.row_kinds other.row_values other.work_list)

-- "The empty list ends the run", with the work left
unfoldable pub run_ended : ℕ → VerifierResources → ℕ → Ran
run_ended pops resources work = record { pops = pops; left = record { bytes = resources.bytes; work = work } }

-- "a refused one ends it with 7", with the work that it found
unfoldable pub run_refused : AnalysisKind → ℕ → VerifierResources → ℕ → Refused
run_refused which requested resources remaining =
    OverBudget (stage_number which) requested remaining (record { bytes = resources.bytes; work = remaining })

-- the outcome of a run's charges
abbrev pub outcome_of : Result Ran Refused → Outcome
outcome_of (Ok r) = Ok r.left
outcome_of (Err refused) = Err refused

-- its pop count, none after a refusal
abbrev pub pops_of : Result Ran Refused → ℕ
pops_of (Ok r) = r.pops
pops_of (Err refused) = 0
