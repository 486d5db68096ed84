-- The loop over one sheet: what a turn asks of what is lent, and how it goes on.
-- Assumes nothing.
use mathlib.Core.Path.{◌≡◌, ◌∙◌}
use mathlib.Core.List.{List, Memᴰ as Member}
use Prim.Native.Nat.{ℕ, ◌+◌, ◌*◌, ◌-◌, ◌≤◌, ◌<◌}
use native.Mathlib.Omega.{arith}
use Rattle.std.specs.Prelude.{Ok, Err}
use lib.ListN.{length, get_or, set, take, length-set}
use Rattle.model.specs.Sheet.{code_count}
use Rattle.model.specs.Call.{zeros}
use Rattle.model.specs.Fact.{Row, equal_known}
use Rattle.model.specs.Run.{Analysis}
use Rattle.model.specs.Successors.{sheet_successors, as_record}
use Rattle.model.specs.Tables.{TableSlices}
use Rattle.model.specs.Transfer.{transfer_row}
use Rattle.model.specs.Analyses.{analysis}
use Rattle.model.specs.Demand.{Lawful}
use Rattle.model.specs.declared.VerifierResources.{VerifierResources}
use Rattle.model.specs.declared.InstructionSuccessors.{InstructionSuccessors}
use Rattle.finality.proofs.Lawful.{lawful, successors_below}
use Rattle.fixpoint_list.specs.Listed.{entered, EachEntered}
use Rattle.fixpoint_step.proofs.TwoSuccessors.{news_among, news_length, list_length}
use Rattle.fixpoint_step.specs.Stepped.{StepRequires}
use Rattle.fixpoint_step.specs.OneStep.{sheet_of, lengths_of, StepEnsures}
use Rattle.fixpoint_step.specs.declared.tracked.TrackedAnalysis.{TrackedAnalysis}
use Rattle.finality.proofs.Lengths.{zeros_same}
use Rattle.budget.specs.declared.Refused.{Refused}
use Rattle.fixpoint.specs.declared.Ran.{Ran}
use Rattle.fixpoint.specs.Memory.{RunMemory, run_memory, run_tables, run_row, zero_run}
use Rattle.fixpoint.specs.Turn.{ran_analysis, Running, Turn}
use Rattle.fixpoint.specs.Result.{run_ended, run_refused}
use Rattle.fixpoint.proofs.RunEnds.{RunLengths, Told, told_ended, told_refused}
use Rattle.fixpoint.proofs.NewsEntered.{few, each_asks, each_entered}
use Rattle.fixpoint.proofs.LoopState as T

module _ (a : TrackedAnalysis) (entry : Row) where
  some_n : 0 < (ran_analysis a entry).n
  unfolding ran_analysis analysis
  some_n = a.tracked.some_code

  some_s : 0 < (ran_analysis a entry).s
  unfolding ran_analysis analysis
  some_s = a.tracked.some_slot

  module _ (long : length entry ≡ length a.slots.now) where
    pub law : Lawful (ran_analysis a entry)
    unfolding ran_analysis
    law = lawful a.which (sheet_of a) a.slots.now (lengths_of a) entry long

    -- a running state, with the lengths of what it lies in
    pub turn_of : (left room : ℕ) → code_count (sheet_of a) * (1 + 2 * length a.slots.now) ≤ room → (m : RunMemory) (top pops rest : ℕ)
        → length m.row_kinds ≡ length a.slots.now → length m.row_values ≡ length a.slots.now → length m.work_list ≡ room
        → Running (ran_analysis a entry) left (run_tables m) m.work_list top pops rest → Turn a entry left room m top pops rest
    unfolding ran_analysis analysis
    turn_of left room fit m top pops rest hk hv hl r =
        let z : T.TurnSizes (ran_analysis a entry) law (run_tables m) top pops =
        T.running_sizes (ran_analysis a entry) law some_n left (run_tables m) m.work_list top pops rest r in record {
          entry_length = long;
          running = r;
          fits = z.fits;
          present_length = z.present_length;
          kinds_length = z.kinds_length;
          values_length = z.values_length;
          row_kinds_length = hk;
          row_values_length = hv;
          list_length = hl;
          list_fits = fit;
        }

-- ---- a turn

module _ {a : TrackedAnalysis} {entry : Row} (resources : VerifierResources) {room : ℕ} {m : RunMemory} {top pops rest : ℕ}
    (t : Turn a entry resources.work room m top pops rest) where
  abbrev of : Analysis
  of = ran_analysis a entry

  abbrev lawful_run : Lawful (ran_analysis a entry)
  lawful_run = law a entry t.entry_length

  n_above : 0 < (ran_analysis a entry).n
  n_above = some_n a entry

  s_above : 0 < (ran_analysis a entry).s
  s_above = some_s a entry

  -- there is room for the bound
  spacious : code_count (sheet_of a) * (1 + 2 * length a.slots.now) ≤ length m.work_list
  spacious = rw t.list_length t.list_fits

  -- the empty list
  pub turn_ends : top ≤ 0 → (old : RunMemory) → RunLengths m old → length m.work_list ≡ length old.work_list
      → (row_kinds' row_values' : List ℕ) → (row_kinds' ≡ zeros m.row_kinds) × (row_values' ≡ zeros m.row_values) → (r : Ran) → r ≡ run_ended pops resources rest
      → Told a entry resources (Ok r) old (run_memory m.present m.kinds m.values row_kinds' row_values' m.work_list)
  unfolding ran_analysis analysis
  turn_ends h old long list row_kinds' row_values' g r is =
      told_ended a entry resources t.running.st.rows pops rest
      (T.ends_empty of lawful_run n_above resources.work (run_tables m) m.work_list top pops rest t.running s_above h)
      (run_memory m.present m.kinds m.values row_kinds' row_values' m.work_list) old t.running.lies.rows_lie
      (g.0 ∙ zeros_same _ _ long.row_kinds) (g.1 ∙ zeros_same _ _ long.row_values)
      (T.empty_list of lawful_run n_above resources.work (run_tables m) m.work_list top pops rest t.running h ∙ zeros_same _ _ list) r is

  module _ (h : 0 < top) where
    -- the entry that is taken next is an instruction
    pub turn_entry : get_or m.work_list (top - 1) 0 < code_count (sheet_of a)
    unfolding ran_analysis analysis
    turn_entry = T.entry_below of lawful_run n_above resources.work (run_tables m) m.work_list top pops rest t.running spacious h

    -- a refused charge
    pub turn_refused : rest < length a.slots.now → (old new : RunMemory) → new ≡ zero_run old → (r : Refused) → r ≡ run_refused a.which (length a.slots.now) resources rest
        → Told a entry resources (Err r) old new
    unfolding ran_analysis analysis
    turn_refused low old new z r is =
        told_refused a entry resources (length a.slots.now) rest
        (T.ends_refused of lawful_run n_above resources.work (run_tables m) m.work_list top pops rest t.running spacious h s_above low) old new z r is

    -- a step of the entry p, once the charge is covered
    module _ (enough : length a.slots.now ≤ rest) {p : ℕ} (p-is : p ≡ get_or m.work_list (top - 1) 0) where
      abbrev others : List ℕ
      others = set m.work_list (top - 1) 0

      taken : T.Taken (ran_analysis a entry) lawful_run resources.work (run_tables m) (set m.work_list (top - 1) 0) (top - 1) (pops + 1) (rest - length a.slots.now) p
      unfolding ran_analysis analysis
      taken = rw p-is (T.taken of lawful_run n_above resources.work (run_tables m) m.work_list top pops rest t.running spacious h enough)

      -- what it asks
      pub stepping : StepRequires (code_count (sheet_of a)) (length a.slots.now) p (run_tables m) (run_row m)
      unfolding ran_analysis analysis
      stepping = record {
        below = rw p-is turn_entry;
        rows = taken.st.rows;
        row_there = taken.row;
        rows_lie = taken.lies.rows_lie;
        stands = taken.stands;
        present_length = t.present_length;
        kinds_length = t.kinds_length;
        values_length = t.values_length;
        row_kinds_length = t.row_kinds_length;
        row_values_length = t.row_values_length;
      }

      module _ (t' : TableSlices) (r : InstructionSuccessors) (o : StepEnsures a p (run_tables m) t' r) where
        -- what had news
        to_enter : List ℕ
        to_enter = T.had_news of lawful_run n_above resources.work (run_tables m) others (top - 1) (pops + 1) (rest - length a.slots.now) p taken

        to_enter_is : r ≡ as_record to_enter
        unfolding StepEnsures ran_analysis analysis to_enter
        to_enter_is = (o taken.st.rows taken.row taken.lies.rows_lie taken.stands).1

        to_enter_two : length to_enter ≤ 2
        unfolding ran_analysis analysis to_enter
        to_enter_two =
            omega (arith, news_length (equal_known a.which (sheet_of a)) (transfer_row a.which (sheet_of a) a.slots.now (lengths_of a) p taken.row) (sheet_successors (sheet_of a) p) taken.st.rows, list_length (sheet_of a) p)

        to_enter_below : (y : ℕ) → Member y to_enter → y < code_count (sheet_of a)
        unfolding ran_analysis analysis to_enter
        to_enter_below y e = successors_below (sheet_of a) p y (news_among (equal_known a.which (sheet_of a)) _ (sheet_successors (sheet_of a) p) taken.st.rows y e)

        to_enter_fits : length (entered to_enter taken.st.list) ≤ length (set m.work_list (top - 1) 0)
        unfolding ran_analysis analysis to_enter
        to_enter_fits =
            omega (
              arith,
              spacious,
              length-set m.work_list (top - 1) 0,
              T.taken_room of lawful_run n_above resources.work (run_tables m) others (top - 1) (pops + 1) (rest - length a.slots.now) p taken,
            )

        pub few_to_enter : r.len ≤ 2
        few_to_enter = few to_enter to_enter_two r to_enter_is

        module _ {list₀ : List ℕ} (l₀ : list₀ ≡ set m.work_list (top - 1) 0) where
          -- what entering it asks
          pub enter_asks : (length (take r.len r.pcs) + (top - 1) ≤ length list₀) × ((i : ℕ) → i < length (take r.len r.pcs) → get_or (take r.len r.pcs) i 0 ≤ 65535)
          enter_asks =
              rw l₀
              (each_asks to_enter to_enter_two r to_enter_is taken.st.list others (top - 1) taken.lies.listed to_enter_fits (code_count (sheet_of a)) (omega (arith, a.tracked.little)) to_enter_below)

          -- what the step leaves
          pub stepped : {row_kinds' row_values' list' : List ℕ} {top' : ℕ} → length row_kinds' ≡ length m.row_kinds → length row_values' ≡ length m.row_values
              → length list' ≡ length m.work_list → EachEntered (take r.len r.pcs) list₀ (top - 1) list' top'
              → Turn a entry resources.work room (run_memory t'.present t'.kinds t'.values row_kinds' row_values' list') top' (pops + 1) (rest - length a.slots.now)
          unfolding StepEnsures ran_analysis analysis
          stepped {row_kinds'} {row_values'} {list'} {top'} hk hv hl e =
              turn_of a entry t.entry_length resources.work room t.list_fits
              (run_memory t'.present t'.kinds t'.values row_kinds' row_values' list') top' (pops + 1) (rest - length a.slots.now) (hk ∙ t.row_kinds_length)
              (hv ∙ t.row_values_length) (hl ∙ t.list_length)
              (T.taken_end of lawful_run n_above resources.work (run_tables m) others (top - 1) (pops + 1) (rest - length a.slots.now) p taken
              t' list' top' (o taken.st.rows taken.row taken.lies.rows_lie taken.stands).0 (unfold to_enter in
              (each_entered to_enter to_enter_two r to_enter_is taken.st.list others (top - 1) taken.lies.listed (rw l₀ at e))))
