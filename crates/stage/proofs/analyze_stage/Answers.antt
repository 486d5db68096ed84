-- `analyze_stage` meets its contract: nothing to run, or what the run left.
-- Assumes nothing.
use mathlib.Core.Bool.{true}
use mathlib.Core.Path.{◌≡◌, refl, sym}
use borrow.Author.Tests.{not-true, not-false}
use lib.Seq.{length-take-le}
use Rattle.sheet.proofs.SizeNames.{counted}
use Rattle.fixpoint_step.proofs.OneStep.{found}
use Rattle.fixpoint.specs.Memory.{run_memory}
use Rattle.stage_memory.specs.Lent.{table_in, scratch_in}
use Rattle.std.specs.Prelude.{Ok, Err}
use Rattle.stage.proofs.StageBegun.{answered, asked_lent, ready_there}
use Rattle.stage.proofs.NothingToRun.{idles}
use Rattle.stage.proofs.StageRun.{RunLent, left_covered, ended, lent_there, concluded}
use Rattle.stage.proofs.analyze_stage.Goals.{In-Ok}
use Rattle.stage.proofs.analyze_stage.Goals as goal

-- ---- the needs
pub prepare-requires : goal.prepare-requires
prepare-requires c = record {
  no_marks = c.requires.scratch_zero.no_marks;
  no_stack = c.requires.scratch_zero.no_stack;
  no_row_kinds = c.requires.scratch_zero.no_row_kinds;
  no_row_values = c.requires.scratch_zero.no_row_values;
  wide = c.requires.scratch_zero.wide;
  deep = c.requires.scratch_zero.deep;
}

-- ---- something runs

-- what the run is lent
lent : (c : In-Ok) → c.in-Ok.prepared.runs ≡ true
    → RunLent c.args.indexed.now.sheet.now.bytes.now c.args.indexed.now.sheet.now.sizes.code_count c.in-Ok.prepared.s c.prepare.new.slots
    (run_memory c.clear_rows.new.present c.clear_rows.new.kinds c.clear_rows.new.values c.prepare.new.row_kinds c.prepare.new.row_values c.args.scratch.now.work_list.now)
lent c runs =
    lent_there c.args.before c.args.which _ (found c.args.indexed.now c.requires.lengths) (table_in c.args.output.now) _ c.requires.scratch_zero
    (counted c.args.indexed.now.sheet.now.measured.are).code_count_is c.clear_rows.auto.present c.clear_rows.auto.kinds c.clear_rows.auto.values
    c.clear_rows.ensures (answered (Ok c.in-Ok.prepared)) c.in-Ok.ensures.0 runs

pub overflow_mul-cells : goal.overflow_mul-cells
overflow_mul-cells c = record { fits = (lent (goal.at.overflow_mul-cells c).In-Ok (not-false _ c.if-not-prepared.false)).cells_fit }

pub slice_bounds-analysis-end : goal.slice_bounds-analysis-end
slice_bounds-analysis-end c = (lent (goal.at.slice_bounds-analysis-end c).In-Ok (not-false _ c.if-not-prepared.false)).slots_fit

pub slice_bounds-analysis-end-2 : goal.slice_bounds-analysis-end-2
slice_bounds-analysis-end-2 c = sym (length-take-le _ _ (lent (goal.at.slice_bounds-analysis-end-2 c).In-Ok (not-false _ c.if-not-prepared.false)).slots_fit)

pub invariant_of-analysis : goal.invariant_of-analysis
invariant_of-analysis c = record { lengths_room = c.requires.lengths; tracked = (lent (goal.at.invariant_of-analysis c).In-Ok (not-false _ c.if-not-prepared.false)).tracked }

pub slice_bounds-run_to_fixpoint-end : goal.slice_bounds-run_to_fixpoint-end
slice_bounds-run_to_fixpoint-end c = (lent (goal.at.slice_bounds-run_to_fixpoint-end c).In-Ok (not-false _ c.if-not-prepared.false)).present_fits

pub slice_bounds-run_to_fixpoint-end-2 : goal.slice_bounds-run_to_fixpoint-end-2
slice_bounds-run_to_fixpoint-end-2 c = sym (length-take-le _ _ (lent (goal.at.slice_bounds-run_to_fixpoint-end-2 c).In-Ok (not-false _ c.if-not-prepared.false)).present_fits)

pub slice_bounds-run_to_fixpoint-end-3 : goal.slice_bounds-run_to_fixpoint-end-3
slice_bounds-run_to_fixpoint-end-3 c = (lent (goal.at.slice_bounds-run_to_fixpoint-end-3 c).In-Ok (not-false _ c.if-not-prepared.false)).kinds_fit

pub slice_bounds-run_to_fixpoint-end-4 : goal.slice_bounds-run_to_fixpoint-end-4
slice_bounds-run_to_fixpoint-end-4 c = sym (length-take-le _ _ (lent (goal.at.slice_bounds-run_to_fixpoint-end-4 c).In-Ok (not-false _ c.if-not-prepared.false)).kinds_fit)

pub slice_bounds-run_to_fixpoint-end-5 : goal.slice_bounds-run_to_fixpoint-end-5
slice_bounds-run_to_fixpoint-end-5 c = (lent (goal.at.slice_bounds-run_to_fixpoint-end-5 c).In-Ok (not-false _ c.if-not-prepared.false)).values_fit

pub slice_bounds-run_to_fixpoint-end-6 : goal.slice_bounds-run_to_fixpoint-end-6
slice_bounds-run_to_fixpoint-end-6 c = sym (length-take-le _ _ (lent (goal.at.slice_bounds-run_to_fixpoint-end-6 c).In-Ok (not-false _ c.if-not-prepared.false)).values_fit)

pub slice_bounds-run_to_fixpoint-end-7 : goal.slice_bounds-run_to_fixpoint-end-7
slice_bounds-run_to_fixpoint-end-7 c = (lent (goal.at.slice_bounds-run_to_fixpoint-end-7 c).In-Ok (not-false _ c.if-not-prepared.false)).row_kinds_fit

pub slice_bounds-run_to_fixpoint-end-8 : goal.slice_bounds-run_to_fixpoint-end-8
slice_bounds-run_to_fixpoint-end-8 c = sym (length-take-le _ _ (lent (goal.at.slice_bounds-run_to_fixpoint-end-8 c).In-Ok (not-false _ c.if-not-prepared.false)).row_kinds_fit)

pub slice_bounds-run_to_fixpoint-end-9 : goal.slice_bounds-run_to_fixpoint-end-9
slice_bounds-run_to_fixpoint-end-9 c = (lent (goal.at.slice_bounds-run_to_fixpoint-end-9 c).In-Ok (not-false _ c.if-not-prepared.false)).row_values_fit

pub slice_bounds-run_to_fixpoint-end-10 : goal.slice_bounds-run_to_fixpoint-end-10
slice_bounds-run_to_fixpoint-end-10 c = sym (length-take-le _ _ (lent (goal.at.slice_bounds-run_to_fixpoint-end-10 c).In-Ok (not-false _ c.if-not-prepared.false)).row_values_fit)

pub run_to_fixpoint-ran-requires : goal.run_to_fixpoint-ran-requires
run_to_fixpoint-ran-requires c = (lent (goal.at.run_to_fixpoint-ran-requires c).In-Ok (not-false _ c.if-not-prepared.false)).run

-- ---- what is left

pub returns-in-Err-clause-left : goal.returns-in-Err-clause-left
returns-in-Err-clause-left c =
    idles c.args.before c.args.which _ (table_in c.args.output.now) (scratch_in c.args.scratch.now) _ c.requires.scratch_zero
    (asked_lent c.args.before c.args.which _ (table_in c.args.output.now) (scratch_in c.args.scratch.now)
    c.clear_rows.auto.present c.clear_rows.auto.kinds c.clear_rows.auto.values (answered (Err c.in-Err.refused)) _ _ _ c.in-Err.ensures.0) refl
    c.clear_rows.ensures.0 c.clear_rows.ensures.1 c.clear_rows.ensures.2 c.in-Err.ensures.1 c.in-Err.ensures.2

pub returns-then-not-prepared-clause-left : goal.returns-then-not-prepared-clause-left
returns-then-not-prepared-clause-left c =
    idles c.args.before c.args.which _ (table_in c.args.output.now) (scratch_in c.args.scratch.now) _ c.requires.scratch_zero
    (asked_lent c.args.before c.args.which _ (table_in c.args.output.now) (scratch_in c.args.scratch.now)
    c.clear_rows.auto.present c.clear_rows.auto.kinds c.clear_rows.auto.values (answered (Ok c.in-Ok.prepared)) _ _ _ c.in-Ok.ensures.0) (not-true _ c.if-not-prepared.true)
    c.clear_rows.ensures.0 c.clear_rows.ensures.1 c.clear_rows.ensures.2 c.in-Ok.ensures.1 c.in-Ok.ensures.2

pub returns-clause-left : goal.returns-clause-left
returns-clause-left c =
    concluded c.args.before c.args.which _ (found c.args.indexed.now c.requires.lengths) (table_in c.args.output.now) (scratch_in c.args.scratch.now) c.requires.scratch_zero
    (counted c.args.indexed.now.sheet.now.measured.are).code_count_is
    (ready_there c.args.before c.args.which _ (table_in c.args.output.now) _ c.clear_rows.auto.present c.clear_rows.auto.kinds c.clear_rows.auto.values
    (answered (Ok c.in-Ok.prepared)) c.in-Ok.ensures.0 (not-false _ c.if-not-prepared.false)) (not-false _ c.if-not-prepared.false)
    c.clear_rows.ensures.0 c.clear_rows.ensures.1 c.clear_rows.ensures.2 c.in-Ok.ensures.1 c.in-Ok.ensures.2 (left_covered _) (ended c.run_to_fixpoint-ran.result) _
    (record {
      present = c.run_to_fixpoint-ran.auto.present;
      kinds = c.run_to_fixpoint-ran.auto.kinds;
      values = c.run_to_fixpoint-ran.auto.values;
      row_kinds = c.run_to_fixpoint-ran.auto.row_kinds;
      row_values = c.run_to_fixpoint-ran.auto.row_values;
    })
    c.conclude_run.ensures.1 c.conclude_run.ensures.2 c.conclude_run.ensures.0 c.run_to_fixpoint-ran.ensures
