-- `prepare` meets its contract: what was begun, or nothing after a refusal.
-- Assumes nothing.
use Rattle.std.proofs.lemmas.Result.{err_from_is_err_and}
use Rattle.stage_prepare.proofs.ZeroFronts.{cleared_zero}
use Rattle.stage_prepare.proofs.PreparedOutcome.{prepared_none, prepared_begun}
use Rattle.stage_prepare.proofs.preparation.prepare.Goals as goal

pub returns-in_err-left : goal.returns-in_err-left
returns-in_err-left c =
    let a = c.args in
    let p = err_from_is_err_and c.from_residual.result c.from_residual.ensures.1 in
    rw (p.1, p.2) (
      prepared_none a.which a.sheet.now.bytes.now a.slots.now a.row_kinds.now a.row_values.now a.room a.before c.clear.ensures c.requires.no_row_kinds
          c.requires.no_row_values c.in_err-left.was,
      c.requires.no_marks,
      c.requires.no_stack,
    )

pub begin_stage-requires : goal.begin_stage-requires
begin_stage-requires c =
    (cleared_zero c.args.slots.now c.clear.ensures, c.requires)

pub returns : goal.returns
returns c =
    let a = c.args in
    let ends = c.begin_stage.ensures in (
      prepared_begun a.which a.sheet.now.bytes.now a.slots.now a.row_kinds.now a.row_values.now a.room a.before c.clear.ensures c.in_ok-left.was ends.0,
      ends.1,
      ends.2,
    )
