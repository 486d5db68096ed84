-- `begin_stage` meets its contract: the closure refused, what follows it refused, or all covered.
-- Assumes nothing.
use mathlib.Core.Path.{refl, ap, ◌∙◌}
use Prim.Native.Nat.{ℕ}
use Rattle.std.proofs.lemmas.Result.{err_from_is_err_and}
use Rattle.sheet.proofs.SizeNames.{counted}
use Rattle.stage_entry.proofs.Refusals.{refused_not_covered}
use Rattle.stage_prepare.specs.Prepare.{something}
use Rattle.stage_prepare.proofs.ClosureSlots.{begin_stopped, few_tracked, tracked_ascend, begin_refused, begin_covered}
use Rattle.stage_prepare.proofs.begin.begin_stage.Goals as goal

pub tracked_slots-requires : goal.tracked_slots-requires
tracked_slots-requires c =
    let asked = c.requires in
    let l = (counted c.args.sheet.now.measured.are).local_slots_is in
    (rw l asked.1.wide, rw l asked.1.deep, asked.1.no_marks, asked.1.no_stack)

pub returns-in_err-tracked : goal.returns-in_err-tracked
returns-in_err-tracked c =
    let a = c.args in
    let ends = c.in_err-tracked.ensures in
    let p = err_from_is_err_and c.from_residual.result c.from_residual.ensures.1 in
    rw (p.1, p.2) (
      begin_stopped a.which a.sheet.now.bytes.now a.slots.now a.row_kinds.now a.row_values.now a.room a.resources c.requires.0 ends.closes c.requires.1.no_row_kinds
          c.requires.1.no_row_values (refused_not_covered refl),
      ends.no_marks,
      ends.no_entries,
    )

pub enter_tracked-entered-requires : goal.enter_tracked-entered-requires
enter_tracked-entered-requires c =
    let a = c.args in
    let came = c.in_ok-tracked.ensures.closes in (
      few_tracked a.which a.sheet.now.bytes.now a.slots.now a.row_kinds.now a.row_values.now a.room a.resources c.requires.0 came refl a.sheet.now.measured,
      tracked_ascend a.which a.sheet.now.bytes.now a.slots.now a.row_kinds.now a.row_values.now a.room a.resources c.requires.0 came refl,
      c.requires.1.no_row_kinds,
      c.requires.1.no_row_values,
    )

pub returns-in-Err : goal.returns-in-Err
returns-in-Err c =
    let a = c.args in
    let ends = c.in_ok-tracked.ensures in (
      begin_refused a.which a.sheet.now.bytes.now a.slots.now a.row_kinds.now a.row_values.now a.room a.resources c.requires.0 ends.closes refl
          c.in-Err.ensures (refused_not_covered refl) c.clear.ensures,
      ends.no_marks,
      ends.no_entries,
    )

pub returns-in-Ok : goal.returns-in-Ok
returns-in-Ok c =
    let a = c.args in
    let ends = c.in_ok-tracked.ensures in (
      begin_covered a.which a.sheet.now.bytes.now a.slots.now a.row_kinds.now a.row_values.now a.room a.resources c.requires.0 ends.closes refl
          c.in-Ok.ensures refl
          (c.is_something.ensures ∙ ap (λ (n : ℕ). something n c.in_ok-tracked.tracked.s) (counted a.sheet.now.measured.are).code_count_is),
      ends.no_marks,
      ends.no_entries,
    )
