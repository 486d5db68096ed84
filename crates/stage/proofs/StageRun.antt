-- A stage that runs: what its run is lent, and what it leaves.
-- Assumes nothing.
use Rattle.std.specs.Prelude.{Result, Err, Ok, is_err}
use mathlib.Core.Path.{◌≡◌, refl, sym, ap, ap₂, ◌∙◌}
use mathlib.Core.Bool.{Bool, true, false, cond, not, ◌&&◌}
use mathlib.Core.List.{List, ◌++◌, map}
use mathlib.Core.Option.{some}
use Prim.Native.Nat.{ℕ, zero, suc, ◌+◌, ◌*◌, ◌-◌, ◌^◌, ◌≤◌, ◌<◌}
use native.Mathlib.Omega.{arith}
use lib.Dec.{eqb}
use lib.ListN.{length, replicate, take, drop, length-append, length-map, length-replicate, replicate-append-replicate}
use lib.Seq.{take_at, length-take-le, drop-append_seam}
use borrow.Author.Tests.{eqb-false, leb-true}
use Rattle.model.specs.Sheet.{code_count, local_slots}
use Rattle.model.specs.Charges.{Refusal, over_budget, no_room, Spent, ok, continue}
use Rattle.model.specs.Fact.{Fact, kind, value, Row}
use Rattle.model.specs.Run.{RunEnd, finished, overdrawn, fuel_spent, run}
use Rattle.model.specs.Tables.{facts_of}
use Rattle.model.specs.Analyses.{Analysed, analysis, ran_to, propagate}
use Rattle.model.specs.Call.{Table, Scratch, table, scratch, counts, tables, zeros, filled, zero_table, filled_table}
use Rattle.model.specs.declared.VerifierResources.{VerifierResources}
use Rattle.model.specs.declared.AnalysisKind.{AnalysisKind}
use Rattle.model.specs.declared.Counts.{Counts}
use Rattle.model.proofs.Facts.{facts_back}
use Rattle.finality.proofs.Lengths.{zeros_length, zeros_same}
use Rattle.budget.specs.Outcome.{Outcome, as_spent, refused_by, left_of, leaves, leaves_of}
use Rattle.budget.proofs.Outcomes.{Left, covered, stopped, left_by}
use Rattle.sheet.specs.declared.Sizes.{Sizes}
use Rattle.sheet.proofs.AcceptedSheet.{measured}
use Rattle.sheet.proofs.SizeNames.{counted}
use Rattle.sheet.proofs.SizeLimits.{limited}
use Rattle.fixpoint_step.specs.Lengths.{lengths_in}
use Rattle.fixpoint_step.specs.declared.lengths.LengthFact.{LengthFact}
use Rattle.fixpoint_step.specs.Stepped.{SheetIndex, TrackedSlots}
use Rattle.fixpoint.specs.Memory.{RunMemory, run_memory, zero_run}
use Rattle.fixpoint.specs.Turn.{RunRequires}
use Rattle.fixpoint.specs.declared.Ran.{Ran}
use Rattle.budget.specs.declared.Refused.{Refused}
use Rattle.fixpoint.specs.Result.{outcome_of, pops_of, RunLeft, ran, ran_tables}
use Rattle.fixpoint.proofs.RunEnds.{RunLengths}
use Rattle.stage_memory.proofs.RoomTests.{some_room, cells_fit}
use Rattle.stage_memory.specs.Stage.{zero_scratch, counts_if}
use Rattle.stage_memory.proofs.RecordEqualities.{table_path, scratch_path}
use Rattle.stage_prepare.specs.Begin.{begin}
use Rattle.stage_memory.specs.Room.{room_by}
use Rattle.stage_prepare.specs.Prepare.{unprepared, prepared_by, prepared, something}
use Rattle.stage_prepare.proofs.ClosureSlots.{few_below}
use Rattle.stage_prepare.proofs.RoomAndRow.{room_parts}
use Rattle.stage_prepare.proofs.ZeroFronts.{take_zero, front_filled, front_cleared, cleared_zero}
use Rattle.stage_memory.specs.Staged.{ScratchZero, no_counts, staged, staged_by}
use Rattle.stage.proofs.StageBegun.{Answered, stage_after, stage_after_lem, Ready, ready_there}
use Rattle.stage.proofs.NothingToRun.{stage_path, filled_zeros}

-- ---- parts of what is lent

-- the first places of what was filled
front : (new old : List ℕ) (k : ℕ) → length new ≡ k → take k (filled new old) ≡ new
unfolding filled
front new old k h = take_at new (replicate (length old - length new) 0) k h

filled_length : (new old : List ℕ) → length new ≤ length old → length (filled new old) ≡ length old
unfolding filled
filled_length new old h = length-append new _ ∙ omega (arith, length-replicate {A = ℕ} (length old - length new) 0)

zeros_front : (k : ℕ) (old : List ℕ) → k ≤ length old → zeros (take k old) ≡ replicate k 0
unfolding zeros
zeros_front k old h = ap (λ (m : ℕ). replicate m 0) (length-take-le k old h)

-- what was filled, with zeros in its first places again
emptied : (new old : List ℕ) (k : ℕ) → length new ≡ k → k ≤ length old → {part : List ℕ} → part ≡ replicate k 0 → part ++ drop k (filled new old) ≡ zeros old
unfolding filled zeros
emptied new old k h l {part} e =
    rw (e, ← h, drop-append_seam new (replicate (length old - length new) 0)) (replicate-append-replicate {A = ℕ} (length new) (length old - length new) 0 ∙ ap (λ (m : ℕ). replicate m 0) (whole (length new) (length old) (rw h l)))
  where
    whole : (a b : ℕ) → a ≤ b → a + (b - a) ≡ b
    whole a b h = omega arith

-- the first places of a cleared output, filled or cleared again
module _ (k : ℕ) (old : List ℕ) {new : List ℕ} (is : new ≡ zeros old) (h : k ≤ length new) {part : List ℕ} where
  front_made : {made : List ℕ} → part ≡ made → length part ≡ length (take k new) → part ++ drop k new ≡ filled made old
  front_made {made} e l = front_filled k new h (cleared_zero old is) e (l ∙ length-take-le k new h) ∙ ap (filled made) is ∙ filled_zeros made old

  front_lost : part ≡ zeros (take k new) → part ++ drop k new ≡ zeros old
  front_lost e = front_cleared k new h (cleared_zero old is) (e ∙ zeros_front k new h) ∙ zeros_same new old (ap length is ∙ zeros_length old)

-- ---- something runs

some_both : (n s : ℕ) → something n s ≡ true → (0 < n) × (0 < s)
unfolding something
some_both n s e = go (eqb n 0) (eqb s 0) refl refl e
  where
    above : (m : ℕ) → eqb m 0 ≡ false → 0 < m
    above zero h = absurd (eqb-false 0 0 h refl)
    above (suc m) h = omega arith

    go : (a b : Bool) → eqb n 0 ≡ a → eqb s 0 ≡ b → not a && not b ≡ true → (0 < n) × (0 < s)
    go false false p q h = (above n p, above s q)
    go true b p q h = let z : ◌≡◌ {A = ℕ} 0 1 = cc in absurd (omega arith)
    go false true p q h = let z : ◌≡◌ {A = ℕ} 0 1 = cc in absurd (omega arith)

-- the slots of a run that ended are those it was fed
ran_slots : (end : RunEnd) (which : AnalysisKind) (slots : List ℕ) (entry : Row) (started : VerifierResources) {left : VerifierResources} {a : Analysed} → ran_to end which slots entry started ≡ ok a left → a.slots ≡ slots
unfolding ran_to
ran_slots (finished rows count left) which slots entry started e = cc
ran_slots (overdrawn requested remaining) which slots entry started e = let z : ◌≡◌ {A = ℕ} 0 1 = cc in absurd (omega arith)
ran_slots fuel_spent which slots entry started e = let z : ◌≡◌ {A = ℕ} 0 1 = cc in absurd (omega arith)

fed_slots : (which : AnalysisKind) (sheet slots : List ℕ) (length_fact : ℕ → Fact) (entry : Row) (started : VerifierResources) {left : VerifierResources} {a : Analysed}
    → propagate which sheet slots length_fact entry started ≡ ok a left → a.slots ≡ slots
unfolding propagate
fed_slots which sheet slots length_fact entry started e = ran_slots (run (analysis which sheet slots length_fact entry) started.work) which slots entry started e

refused_by_lem : (refusal : Refusal) {outcome : Outcome} (left : VerifierResources) → outcome ≡ Err (refused_by refusal left) → is_err outcome ≡ true
unfolding refused_by
refused_by_lem (over_budget stage requested remaining) left e = rw e
refused_by_lem no_room left e = rw e

-- what is left where all was covered
pub left_covered : (left : VerifierResources) → left ≡ left_of (Ok left)
unfolding left_of
left_covered left = refl

-- What a run answers: its pop count and the outcome of its charges.
pub record Ended : Type 0 where
  pub pops : ℕ
  pub outcome : Outcome

abbrev pub ended : Result Ran Refused → Ended
ended r = record { pops = pops_of r; outcome = outcome_of r }

-- ---- what the run is lent, and what it leaves

-- s of the slots, and of the whole memory the first n, n × s and s places
pub record RunLent (sheet : List ℕ) (n s : ℕ) (slots : List ℕ) (m : RunMemory) : Type 0 where
  pub cells_fit : n * s < 2 ^ 64
  pub slots_fit : s ≤ length slots
  pub present_fits : n ≤ length m.present
  pub kinds_fit : n * s ≤ length m.kinds
  pub values_fit : n * s ≤ length m.values
  pub row_kinds_fit : s ≤ length m.row_kinds
  pub row_values_fit : s ≤ length m.row_values
  pub tracked : TrackedSlots sheet (take s slots)
  pub run : RunRequires (code_count sheet) (length (take s slots)) (run_memory (take n m.present) (take (n * s) m.kinds) (take (n * s) m.values) (take s m.row_kinds) (take s m.row_values) m.work_list)

module _ (before : Outcome) (which : AnalysisKind) (sheet : List ℕ) {sizes : Sizes} {firsts classes : List ℕ} {lengths : List LengthFact}
    (i : SheetIndex sheet sizes firsts classes lengths) (t : Table) (w : Scratch) (z : ScratchZero sheet w)
    {n : ℕ} (all : n ≡ code_count sheet) {r : Answered} {slots' rk rv : List ℕ} (y : Ready before which sheet t w r slots' rk rv) (runs : r.runs ≡ true) where
  above : (0 < code_count sheet) × (0 < length y.b.slots)
  above = some_both (code_count sheet) (length y.b.slots) (sym y.runs_is ∙ runs)

  -- question 8, as inequalities
  fits : (r.s ≤ length t.slots) × (r.s ≤ length w.row_kinds) × (r.s ≤ length w.row_values) × (n ≤ length t.present) × (n * r.s ≤ length t.kinds) × (n * r.s ≤ length t.values)
      × (n * (1 + 2 * r.s) ≤ length w.work_list)
  fits =
      let f = room_parts (code_count sheet) (length y.b.slots) _ _ _ _ _ _ _ y.begun.room in
      let a = above in
      rw (all, y.s_is) (f.0, f.1, f.2, f.3, f.4, f.5, leb-true _ _ (some_room (code_count sheet) (length y.b.slots) (length w.work_list) (λ e. absurd (omega arith)) (λ e. absurd (omega arith)) ∙ f.6))

  few : r.s ≤ 65535
  few =
      let below = few_below (local_slots sheet) y.b.slots y.begun.exact.ascending y.begun.exact.below in
      let most = rw (counted i.accepted.are).local_slots_is at (limited (measured i.accepted)).local_slots_is in
      omega (arith, y.s_is)

  little : code_count sheet ≤ 4096
  little = rw (sym (counted i.accepted.are).code_count_is) (limited (measured i.accepted)).code_count_is

  -- n × s does not wrap
  fits_cells : n * r.s < 2 ^ 64
  fits_cells = omega (arith, (cells_fit n r.s (rw all little) few).0)

  slots_front : take r.s slots' ≡ y.b.slots
  slots_front = ap (take r.s) y.slots_are ∙ front y.b.slots t.slots r.s (sym y.s_is)

  slots_long : length slots' ≡ length t.slots
  slots_long = ap length y.slots_are ∙ filled_length y.b.slots t.slots (rw (← y.s_is) fits.0)

  slots_fit : r.s ≤ length slots'
  slots_fit = rw slots_long fits.0

  tracked : TrackedSlots sheet (take r.s slots')
  tracked = rw slots_front (record {
    ascending = y.begun.exact.ascending;
    some_slot = above.1;
    few_slots = rw (← y.s_is) few;
    some_code = above.0;
    little = little;
  })

  -- the row scratch has the first row in front
  kinds_long : length (map kind y.b.entry) ≡ r.s
  kinds_long = length-map y.b.entry kind ∙ y.begun.long ∙ sym y.s_is

  values_long : length (map value y.b.entry) ≡ r.s
  values_long = length-map y.b.entry value ∙ y.begun.long ∙ sym y.s_is

  row_kinds_front : take r.s rk ≡ map kind y.b.entry
  row_kinds_front = ap (take r.s) y.row_kinds_are ∙ front (map kind y.b.entry) w.row_kinds r.s kinds_long

  row_values_front : take r.s rv ≡ map value y.b.entry
  row_values_front = ap (take r.s) y.row_values_are ∙ front (map value y.b.entry) w.row_values r.s values_long

  row_is : facts_of (take r.s rk) (take r.s rv) ≡ y.b.entry
  row_is = ap₂ facts_of row_kinds_front row_values_front ∙ facts_back y.b.entry

  rows_fit : (r.s ≤ length rk) × (r.s ≤ length rv)
  rows_fit = (
    rw (y.row_kinds_are, filled_length (map kind y.b.entry) w.row_kinds (rw kinds_long fits.1)) fits.1,
    rw (y.row_values_are, filled_length (map value y.b.entry) w.row_values (rw values_long fits.2)) fits.2,
  )

  module _ {present' kinds' values' : List ℕ} (no-present' : present' ≡ zeros t.present) (no-kinds' : kinds' ≡ zeros t.kinds) (no-values' : values' ≡ zeros t.values) where
    tables_fit : (n ≤ length present') × (n * r.s ≤ length kinds') × (n * r.s ≤ length values')
    tables_fit = rw (no-present', no-kinds', no-values', zeros_length t.present, zeros_length t.kinds, zeros_length t.values) (fits.3, fits.4, fits.5)

    abbrev lent : RunMemory
    lent = run_memory (take n present') (take (n * r.s) kinds') (take (n * r.s) values') (take r.s rk) (take r.s rv) w.work_list

    -- what the run asks
    run_asks : RunRequires (code_count sheet) (length (take r.s slots')) (run_memory (take n present') (take (n * r.s) kinds') (take (n * r.s) values') (take r.s rk) (take r.s rv) w.work_list)
    run_asks =
        let f = tables_fit in
        rw (← all, slots_front, ← y.s_is) (record {
          present_zero = take_zero n present' f.0 (cleared_zero t.present no-present');
          kinds_zero = take_zero (n * r.s) kinds' f.1 (cleared_zero t.kinds no-kinds');
          values_zero = take_zero (n * r.s) values' f.2 (cleared_zero t.values no-values');
          row_length = ap length row_is ∙ y.begun.long ∙ sym y.s_is;
          row_lies = record { kinds_are = row_kinds_front ∙ ap (map kind) (sym row_is); values_are = row_values_front ∙ ap (map value) (sym row_is) };
          list_zero = z.no_list;
          list_fits = fits.6;
        })

    pub run_lent : RunLent sheet n r.s slots' (run_memory present' kinds' values' rk rv w.work_list)
    run_lent = record {
      cells_fit = fits_cells;
      slots_fit = slots_fit;
      present_fits = tables_fit.0;
      kinds_fit = tables_fit.1;
      values_fit = tables_fit.2;
      row_kinds_fit = rows_fit.0;
      row_values_fit = rows_fit.1;
      tracked = tracked;
      run = run_asks;
    }

    -- what it leaves in the first places is what the stage leaves in the whole
    module _ {marks' stack' : List ℕ} (no-marks' : marks' ≡ zeros w.marks) (no_stack' : stack' ≡ zeros w.stack) {resources : VerifierResources} (left_is : resources ≡ left_of r.outcome)
        (end : Ended) (m : RunMemory)
        (long : RunLengths m (run_memory (take n present') (take (n * r.s) kinds') (take (n * r.s) values') (take r.s rk) (take r.s rv) w.work_list))
        {counts' : Counts} {slots'' : List ℕ} (counts-are : counts' ≡ counts_if (is_err end.outcome) r.s end.pops) (slots-left : slots'' ≡ cond (is_err end.outcome) (zeros slots') slots') where
      -- the run's part of the definitions
      abbrev spent : Spent Analysed
      spent = propagate which sheet y.b.slots (lengths_in lengths) y.b.entry y.rest

      started : resources ≡ y.rest
      unfolding left_of
      started = left_is ∙ ap left_of y.outcome_is

      rows_emptied : m.row_kinds ≡ zeros (take r.s rk) → m.row_values ≡ zeros (take r.s rv) → m.work_list ≡ zeros w.work_list
          → scratch marks' stack' (m.row_kinds ++ drop r.s rk) (m.row_values ++ drop r.s rv) m.work_list ≡ zero_scratch w
      unfolding zero_scratch
      rows_emptied k v l =
          scratch_path no-marks' no_stack'
          (ap (λ (x : List ℕ). m.row_kinds ++ drop r.s x) y.row_kinds_are ∙ emptied (map kind y.b.entry) w.row_kinds r.s kinds_long fits.1 (k ∙ zeros_front r.s rk rows_fit.0))
          (ap (λ (x : List ℕ). m.row_values ++ drop r.s x) y.row_values_are ∙ emptied (map value y.b.entry) w.row_values r.s values_long fits.2 (v ∙ zeros_front r.s rv rows_fit.1)) l

      abbrev output : Table
      output = table slots'' (m.present ++ drop n present') (m.kinds ++ drop (n * r.s) kinds') (m.values ++ drop (n * r.s) values')

      abbrev behind : Scratch
      behind = scratch marks' stack' (m.row_kinds ++ drop r.s rk) (m.row_values ++ drop r.s rv) m.work_list

      by_end : Left (ran_tables (zero_run lent)) (ran 0 (zero_run lent)) spent end.outcome (ran end.pops m)
          → some (leaves end.outcome (staged counts' output behind)) ≡ leaves_of (staged_by t w) (staged no_counts (zero_table t) (zero_scratch w)) spent
      unfolding leaves_of ran_tables zero_run staged_by counts tables filled_table zero_table
      by_end (covered a left came o e) =
          let f = tables_fit in
          let fed = fed_slots which sheet y.b.slots (lengths_in lengths) y.b.entry y.rest came in
          rw came (stage_path o
          (counts-are ∙ kept_counts o ∙ ap₂ (λ (k q : ℕ). record { tracked = k; pops = q }) (y.s_is ∙ ap length (sym fed)) (ap (λ (x : RunLeft). x.pops) e))
          (table_path (slots-left ∙ kept_slots o ∙ y.slots_are ∙ ap (λ (x : List ℕ). filled x t.slots) (sym fed))
          (front_made n t.present no-present' f.0 (ap (λ (x : RunLeft). x.memory.present) e) long.present)
          (front_made (n * r.s) t.kinds no-kinds' f.1 (ap (λ (x : RunLeft). x.memory.kinds) e) long.kinds)
          (front_made (n * r.s) t.values no-values' f.2 (ap (λ (x : RunLeft). x.memory.values) e) long.values))
          (rows_emptied (ap (λ (x : RunLeft). x.memory.row_kinds) e) (ap (λ (x : RunLeft). x.memory.row_values) e) (ap (λ (x : RunLeft). x.memory.work_list) e)))
        where
          kept_counts : {left : VerifierResources} → end.outcome ≡ Ok left → counts_if (is_err end.outcome) r.s end.pops ≡ record { tracked = r.s; pops = end.pops }
          kept_counts o = unfold counts_if in (rw o)

          kept_slots : {left : VerifierResources} → end.outcome ≡ Ok left → cond (is_err end.outcome) (zeros slots') slots' ≡ slots'
          kept_slots o = (rw o)
      by_end (stopped refusal left came o e) =
          let f = tables_fit in
          rw came (stage_path o
          (counts-are ∙ lost_counts)
          (table_path (slots-left ∙ lost_slots)
          (front_lost n t.present no-present' f.0 (ap (λ (x : RunLeft). x.memory.present) e))
          (front_lost (n * r.s) t.kinds no-kinds' f.1 (ap (λ (x : RunLeft). x.memory.kinds) e))
          (front_lost (n * r.s) t.values no-values' f.2 (ap (λ (x : RunLeft). x.memory.values) e)))
          (rows_emptied (ap (λ (x : RunLeft). x.memory.row_kinds) e) (ap (λ (x : RunLeft). x.memory.row_values) e) (ap (λ (x : RunLeft). x.memory.work_list) e)))
        where
          lost_counts : counts_if (is_err end.outcome) r.s end.pops ≡ no_counts
          lost_counts = unfold counts_if in (rw (refused_by_lem refusal left o))

          lost_slots : cond (is_err end.outcome) (zeros slots') slots' ≡ zeros t.slots
          lost_slots = (rw (refused_by_lem refusal left o) (zeros_same slots' t.slots slots_long))

      pub concluded : {outcome' : Outcome} → outcome' ≡ end.outcome → some (leaves end.outcome (ran end.pops m))
          ≡ leaves_of (ran_tables (zero_run lent)) (ran 0 (zero_run lent)) (propagate which sheet (take r.s slots') (lengths_in lengths) (facts_of (take r.s rk) (take r.s rv)) resources)
          → some (leaves outcome' (staged counts' output behind))
          ≡ leaves_of (staged_by t w) (staged no_counts (zero_table t) (zero_scratch w)) (stage_after before which sheet t w (lengths_in lengths))
      unfolding continue
      concluded is told =
          rw is (by_end (left_by (ran_tables (zero_run lent)) (ran 0 (zero_run lent)) spent (rw (slots_front, row_is, started) at told))
          ∙ ap (leaves_of (staged_by t w) (staged no_counts (zero_table t) (zero_scratch w))) (sym (stage_after_lem before which sheet t w (lengths_in lengths) ∙ rw y.came)))

-- what the run is lent, from what the calls before it ensure
pub lent_there : (before : Outcome) (which : AnalysisKind) (sheet : List ℕ) {sizes : Sizes} {firsts classes : List ℕ} {lengths : List LengthFact}
    → SheetIndex sheet sizes firsts classes lengths → (t : Table) (w : Scratch) → ScratchZero sheet w → {n : ℕ} → n ≡ code_count sheet
    → {lp lk lv : ℕ} → lp ≡ length t.present → lk ≡ length t.kinds → lv ≡ length t.values
    → {present kinds values : List ℕ} → (present ≡ zeros t.present) × (kinds ≡ zeros t.kinds) × (values ≡ zeros t.values)
    → (r : Answered) {slots row_kinds row_values : List ℕ}
    → some (leaves r.outcome (prepared r.runs r.s slots row_kinds row_values))
    ≡ leaves_of (prepared_by (code_count sheet) t.slots w.row_kinds w.row_values) (unprepared t.slots w.row_kinds w.row_values)
    (continue (λ _. begin which sheet (λ s. room_by (code_count sheet) s (length t.slots) lp lk lv (length w.row_kinds) (length w.row_values) (length w.work_list))) (as_spent before))
    → r.runs ≡ true → RunLent sheet n r.s slots (run_memory present kinds values row_kinds row_values w.work_list)
lent_there before which sheet i t w z all p k v cleared r told runs =
    run_lent before which sheet i t w z all (ready_there before which sheet t w p k v r told runs) runs cleared.0 cleared.1 cleared.2
