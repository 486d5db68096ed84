-- The loop between two turns: a state of the defined run lies in the lent slices.
-- Assumes nothing.
use Rattle.std.specs.Prelude.{◌≡◌, List, ℕ, ◌+◌, ◌*◌, ◌≤◌, length, replicate}
use Rattle.model.specs.Fact.{Row}
use Rattle.model.specs.Sheet.{code_count}
use Rattle.model.specs.Run.{Analysis, State}
use Rattle.model.specs.Tables.{TableSlices, RowsLie, RowLies, facts_in}
use Rattle.model.specs.Analyses.{analysis}
use Rattle.model.specs.Call.{zeros}
use Rattle.model.specs.Demand.{Visited}
use Rattle.fixpoint_list.specs.Listed.{Listed}
use Rattle.fixpoint_step.specs.OneStep.{sheet_of, lengths_of}
use Rattle.fixpoint_step.specs.declared.tracked.TrackedAnalysis.{TrackedAnalysis}
use Rattle.fixpoint.specs.Memory.{RunMemory, run_tables, run_row}

-- the analysis that the loop runs, from its first row
unfoldable pub ran_analysis : TrackedAnalysis → Row → Analysis
ran_analysis a entry = analysis a.which (sheet_of a) a.slots.now (lengths_of a) entry

-- the whole state lies in the tables and in the work list
pub record StateLies (s : ℕ) (st : State) (t : TableSlices) (work_list : List ℕ) (top : ℕ) : Type 0 where
  pub rows_lie : RowsLie s st.rows t
  pub listed : Listed st.list work_list top

-- A state that the run passes through lies in the slices; pops and the work left are its numbers.
pub record Running (a : Analysis) (left : ℕ) (t : TableSlices) (work_list : List ℕ) (top pops rest : ℕ) : Type 0 where
  pub st : State
  pub visited : Visited a left st
  pub lies : StateLies a.s st t work_list top
  pub count_is : pops ≡ st.count
  pub left_is : rest ≡ st.left

-- between two turns, with a work list of `room` cells. (The lengths follow from what lies there; arithmetic reads them.)
pub record Turn (a : TrackedAnalysis) (entry : Row) (left room : ℕ) (m : RunMemory) (top pops rest : ℕ) : Type 0 where
  pub entry_length : length entry ≡ length a.slots.now
  pub running : Running (ran_analysis a entry) left (run_tables m) m.work_list top pops rest
  pub fits : pops + top ≤ code_count (sheet_of a) * (1 + 2 * length a.slots.now)
  pub present_length : length m.present ≡ code_count (sheet_of a)
  pub kinds_length : length m.kinds ≡ code_count (sheet_of a) * length a.slots.now
  pub values_length : length m.values ≡ code_count (sheet_of a) * length a.slots.now
  pub row_kinds_length : length m.row_kinds ≡ length a.slots.now
  pub row_values_length : length m.row_values ≡ length a.slots.now
  pub list_length : length m.work_list ≡ room
  pub list_fits : code_count (sheet_of a) * (1 + 2 * length a.slots.now) ≤ room

-- What the whole run is lent: tables of zeros, exactly as long as it needs, a first row of s facts, and a work list of zeros with room for the bound.
pub record RunRequires (n s : ℕ) (m : RunMemory) : Type 0 where
  pub present_zero : m.present ≡ replicate n 0
  pub kinds_zero : m.kinds ≡ replicate (n * s) 0
  pub values_zero : m.values ≡ replicate (n * s) 0
  pub row_length : length (facts_in (run_row m)) ≡ s
  pub row_lies : RowLies (facts_in (run_row m)) (run_row m)
  pub list_zero : m.work_list ≡ zeros m.work_list
  pub list_fits : n * (1 + 2 * s) ≤ length m.work_list
