-- `closure::slots::track` meets its contract: each way out is one way of the whole closure.
-- Assumes nothing.
use Rattle.std.proofs.Common.{◌∙◌, arith}
use Rattle.std.proofs.lemmas.Result.{err_from_is_err_and}
use Rattle.finality.proofs.Lengths.{zeros_same}
use Rattle.sheet.proofs.SizeNames.{counted}
use Rattle.sheet.proofs.SizeLimits.{limited}
use Rattle.closure.proofs.TrackedSlots.{of_stage, scratch_refused, refused_closed, done_closed}
use Rattle.closure.proofs.slots.track.Goals as goal

pub charge_scratch-requires : goal.charge_scratch-requires
charge_scratch-requires c = (limited c.args.sheet.now.measured).local_slots_is

pub returns-in_err-scratch : goal.returns-in_err-scratch
returns-in_err-scratch c =
    let p = err_from_is_err_and c.from_residual.result c.from_residual.ensures.1 in
    rw (p.1, p.2) (record {
      closes = scratch_refused _ _ _ (counted c.args.sheet.now.measured.are).local_slots_is c.args.resources _ _ (of_stage _ _ _ c.stage_number.ensures c.in_err-scratch.ensures);
      no_marks = c.requires.no_marks;
      no_entries = c.requires.no_entries;
    })

pub returns-in_err-left : goal.returns-in_err-left
returns-in_err-left c =
    let p = err_from_is_err_and c.from_residual-in_err-left.result c.from_residual-in_err-left.ensures.1 in
    let refused = refused_closed _ _ _ (counted c.args.sheet.now.measured.are).local_slots_is c.args.resources _ (of_stage _ _ _ c.stage_number.ensures c.charge_scratch.ensures)
    c.in_ok-scratch.was _ c.expand.ensures.closes _ c.in_err-left.was in
    rw (p.1, p.2) (record { closes = refused.0; no_marks = refused.1; no_entries = c.expand.ensures.no_entries })

pub list_slots-s-requires : goal.list_slots-s-requires
list_slots-s-requires c =
    omega (arith, (limited c.args.sheet.now.measured).local_slots_is, c.requires.wide, (counted c.args.sheet.now.measured.are).local_slots_is)

pub returns : goal.returns
returns c = record {
  closes =
      done_closed _ _ _ (counted c.args.sheet.now.measured.are).local_slots_is c.args.resources _ (of_stage _ _ _ c.stage_number.ensures c.charge_scratch.ensures) c.in_ok-scratch.was _
      c.expand.ensures.closes c.in_ok-left.was c.list_slots-s.ensures.0 c.list_slots-s.ensures.1;
  no_marks = c.clear.ensures ∙ zeros_same _ _ (omega arith);
  no_entries = c.expand.ensures.no_entries;
}
