-- A stage with nothing to run: after a refusal, or with n or s zero.
-- Assumes nothing.
use mathlib.Core.Path.{◌≡◌, refl, sym, ap, ◌∙◌}
use mathlib.Core.Bool.{Bool, true, false, not, ◌&&◌}
use mathlib.Core.Logic.{◌⊎◌, inl, inr}
use mathlib.Core.List.{List, map}
use mathlib.Core.Option.{Option, some}
use Prim.Native.Nat.{ℕ, ◌*◌, ◌≤◌}
use native.Mathlib.Omega.{arith}
use lib.Dec.{eqb}
use lib.ListN.{length, replicate}
use borrow.Author.Tests.{eqb-true}
use Rattle.model.specs.Sheet.{code_count}
use Rattle.model.specs.Charges.{Spent, ok, continue}
use Rattle.model.specs.Fact.{Fact, unknown, kind, value, Row}
use Rattle.model.specs.Analyses.{unknown_row, propagate}
use Rattle.model.specs.Call.{Table, Scratch, table, scratch, counts, tables, zeros, filled, zero_table, filled_table}
use Rattle.model.specs.declared.AnalysisKind.{AnalysisKind}
use Rattle.model.specs.declared.Counts.{Counts}
use Rattle.finality.proofs.Lengths.{zeros_length}
use Rattle.budget.specs.Outcome.{Outcome, Leaves, leaves, leaves_of}
use Rattle.budget.proofs.Outcomes.{Left, covered, stopped, left_by}
use Rattle.fixpoint.proofs.LoopState.{no_cells, no_present}
use Rattle.stage_memory.specs.Stage.{zero_scratch}
use Rattle.stage_memory.proofs.RecordEqualities.{table_path, scratch_path}
use Rattle.stage_prepare.specs.Prepare.{something, PrepareEnd, prepared, prepared_by, unprepared}
use Rattle.stage_prepare.proofs.StageParts.{go_on, enters_at_once, runs_at_once}
use Rattle.stage_prepare.proofs.RoomAndRow.{room_parts, unknown_cells}
use Rattle.stage_prepare.proofs.ZeroFronts.{zero_filled, cleared_zero}
use Rattle.stage_memory.specs.Staged.{ScratchZero, no_counts, StageLeft, staged, staged_by}
use Rattle.stage.proofs.StageBegun.{Answered, begun_after, stage_after, stage_after_lem, PreparedTold, Ready, begun_ready}

pub stage_path : {o o' : Outcome} {c c' : Counts} {t t' : Table} {w w' : Scratch} → o ≡ o' → c ≡ c' → t ≡ t' → w ≡ w'
    → ◌≡◌ {A = Option (Leaves StageLeft)} (some (leaves o (staged c t w))) (some (leaves o' (staged c' t' w')))
stage_path eo ec et ew = cc

-- what is filled counts only by its length
pub filled_zeros : (new old : List ℕ) → filled new (zeros old) ≡ filled new old
unfolding filled
filled_zeros new old = rw (zeros_length old)

-- n or s is zero
nothing : (n s : ℕ) → something n s ≡ false → (n ≡ 0) ⊎ (s ≡ 0)
unfolding something
nothing n s e = go (eqb n 0) (eqb s 0) refl refl e
  where
    go : (a b : Bool) → eqb n 0 ≡ a → eqb s 0 ≡ b → not a && not b ≡ false → (n ≡ 0) ⊎ (s ≡ 0)
    go true b p q h = inl (eqb-true n 0 p)
    go false true p q h = inr (eqb-true s 0 q)
    go false false p q h = let z : ◌≡◌ {A = ℕ} 0 1 = cc in absurd (omega arith)

module _ (before : Outcome) (which : AnalysisKind) (sheet : List ℕ) (t : Table) (w : Scratch) (length_fact : ℕ → Fact) (z : ScratchZero sheet w)
    {r : Answered} {slots' rk rv : List ℕ} (told : PreparedTold before which sheet t w r slots' rk rv) (idle : r.runs ≡ false)
    {present' kinds' values' marks' stack' : List ℕ} (no-present' : present' ≡ zeros t.present) (no-kinds' : kinds' ≡ zeros t.kinds) (no-values' : values' ≡ zeros t.values)
    (no-marks' : marks' ≡ zeros w.marks) (no_stack' : stack' ≡ zeros w.stack) where
  -- the scratch is zero
  scratch_zero_lem : rk ≡ zeros w.row_kinds → rv ≡ zeros w.row_values → scratch marks' stack' rk rv w.work_list ≡ zero_scratch w
  unfolding zero_scratch
  scratch_zero_lem k v = scratch_path no-marks' no_stack' k v z.no_list

  -- nothing runs with n or s zero
  module _ (y : Ready before which sheet t w r slots' rk rv) where
    abbrev s : ℕ
    s = length y.b.slots

    none_here : (code_count sheet ≡ 0) ⊎ (length y.b.slots ≡ 0)
    none_here = nothing (code_count sheet) s (sym y.runs_is ∙ idle)

    unknown_entry : y.b.entry ≡ unknown_row y.b.slots
    unknown_entry =
        let e : ◌≡◌ {A = Spent Row} (ok (unknown_row y.b.slots) y.begun.closed) (ok y.b.entry y.rest) = sym (enters_at_once which sheet y.b.slots y.begun.closed none_here) ∙ y.begun.entered in cc

    zero_table_lem : (old : List ℕ) (m : ℕ) → m ≤ length old → {new : List ℕ} → new ≡ replicate m 0 → zeros old ≡ filled new old
    zero_table_lem old m h {new} is = zero_filled m (zeros old) (rw (zeros_length old) h) (cleared_zero old refl) is ∙ filled_zeros new old

    row_zero : (f : Fact → ℕ) → map f (replicate (length y.b.slots) unknown) ≡ replicate (length y.b.slots) 0 → (old : List ℕ) → length y.b.slots ≤ length old → old ≡ zeros old
        → filled (map f y.b.entry) old ≡ zeros old
    unfolding unknown_row
    row_zero f u old h no_old = rw unknown_entry (sym (zero_filled s old h no_old u) ∙ no_old)

    at_once : some (leaves r.outcome (staged (record { tracked = r.s; pops = 0 }) (table slots' present' kinds' values') (scratch marks' stack' rk rv w.work_list)))
        ≡ leaves_of (staged_by t w) (staged no_counts (zero_table t) (zero_scratch w)) (propagate which sheet y.b.slots length_fact y.b.entry y.rest)
    unfolding leaves_of staged_by counts tables filled_table
    at_once =
        let fit = room_parts (code_count sheet) s _ _ _ _ _ _ _ y.begun.room in
        let runs = ap (λ (x : Row). propagate which sheet y.b.slots length_fact x y.rest) unknown_entry ∙ runs_at_once which sheet y.b.slots y.rest none_here length_fact in
        stage_path y.outcome_is (ap (λ (k : ℕ). record { tracked = k; pops = 0 }) y.s_is)
        (table_path y.slots_are (no-present' ∙ zero_table_lem t.present (code_count sheet) fit.3 (no_present (code_count sheet)))
        (no-kinds' ∙ zero_table_lem t.kinds (code_count sheet * s) fit.4 (no_cells kind s (code_count sheet))) (no-values' ∙ zero_table_lem t.values (code_count sheet * s) fit.5 (no_cells value s (code_count sheet))))
        (scratch_zero_lem (y.row_kinds_are ∙ row_zero kind (unknown_cells s).0 w.row_kinds fit.1 z.no_row_kinds) (y.row_values_are ∙ row_zero value (unknown_cells s).1 w.row_values fit.2 z.no_row_values))
        ∙ ap (leaves_of (staged_by t w) (staged no_counts (zero_table t) (zero_scratch w))) (sym runs)

  -- nor after a refusal
  pub idles : some (leaves r.outcome (staged (record { tracked = r.s; pops = 0 }) (table slots' present' kinds' values') (scratch marks' stack' rk rv w.work_list)))
      ≡ leaves_of (staged_by t w) (staged no_counts (zero_table t) (zero_scratch w)) (stage_after before which sheet t w length_fact)
  unfolding leaves_of continue zero_table
  idles =
      go (left_by (prepared_by (code_count sheet) t.slots w.row_kinds w.row_values) (unprepared t.slots w.row_kinds w.row_values) (begun_after before which sheet t w) told)
      ∙ ap (leaves_of (staged_by t w) (staged no_counts (zero_table t) (zero_scratch w))) (sym (stage_after_lem before which sheet t w length_fact))
    where
      go : Left (prepared_by (code_count sheet) t.slots w.row_kinds w.row_values) (unprepared t.slots w.row_kinds w.row_values) (begun_after before which sheet t w)
          r.outcome (prepared r.runs r.s slots' rk rv)
          → some (leaves r.outcome (staged (record { tracked = r.s; pops = 0 }) (table slots' present' kinds' values') (scratch marks' stack' rk rv w.work_list)))
          ≡ leaves_of (staged_by t w) (staged no_counts (zero_table t) (zero_scratch w)) (go_on which sheet length_fact (begun_after before which sheet t w))
      go (covered b rest came o m) = let y = begun_ready before which sheet t w b rest came o m in rw y.came (at_once y)
      go (stopped refusal rest came o m) =
          rw came (stage_path o (ap (λ (x : PrepareEnd). record { tracked = x.s; pops = 0 }) m) (table_path (ap (λ (x : PrepareEnd). x.slots) m) no-present' no-kinds' no-values')
          (scratch_zero_lem (ap (λ (x : PrepareEnd). x.row_kinds) m) (ap (λ (x : PrepareEnd). x.row_values) m)))
