-- `stage_entry::params::param_start` meets its contract: each way out is one case of the definition's tests. Assumes nothing.
use mathlib.Core.Path.{refl}
use Rattle.sheet.proofs.SizeLimits.{limited}
use Rattle.sheet.proofs.SizeNames.{counted}
use Rattle.stage_entry.proofs.ParamStarts.{no_params_lem, too_wide, too_many, behind_all, no_receiver, behind_closure, nowhere}
use native.Mathlib.Omega.{arith}
use Rattle.stage_entry.proofs.params.param_start.Goals as goal

pub returns-then-sheet-eq0 : goal.returns-then-sheet-eq0
returns-then-sheet-eq0 c =
    let n = counted c.args.sheet.now.measured.are in
    no_params_lem _ n.param_count_is refl n.param_slots_is n.recv_slots_is n.is_closure_is c.if-sheet-eq0.true

pub returns-then-transfer-gt65535 : goal.returns-then-transfer-gt65535
returns-then-transfer-gt65535 c =
    let n = counted c.args.sheet.now.measured.are in
    too_wide _ n.param_count_is c.transfer_slots-transfer.ensures.0 n.param_slots_is n.recv_slots_is n.is_closure_is c.if-sheet-eq0.false c.if-transfer-gt65535.true

pub overflow_add-implicit : goal.overflow_add-implicit
overflow_add-implicit c = let l = limited c.args.sheet.now.measured in omega arith

pub returns-then-implicit-gt65535 : goal.returns-then-implicit-gt65535
returns-then-implicit-gt65535 c =
    let n = counted c.args.sheet.now.measured.are in
    too_many _ n.param_count_is c.transfer_slots-transfer.ensures.0 n.param_slots_is n.recv_slots_is n.is_closure_is c.if-sheet-eq0.false c.if-transfer-gt65535.false c.if-implicit-gt65535.true

pub returns-then-sheet-implicit : goal.returns-then-sheet-implicit
returns-then-sheet-implicit c =
    let n = counted c.args.sheet.now.measured.are in
    behind_all _ n.param_count_is c.transfer_slots-transfer.ensures.0 n.param_slots_is n.recv_slots_is n.is_closure_is c.if-sheet-eq0.false c.if-transfer-gt65535.false c.if-implicit-gt65535.false c.if-sheet-implicit.true

pub returns-then-sheet-eq0-2 : goal.returns-then-sheet-eq0-2
returns-then-sheet-eq0-2 c =
    let n = counted c.args.sheet.now.measured.are in
    no_receiver _ n.param_count_is c.transfer_slots-transfer.ensures.0 n.param_slots_is n.recv_slots_is n.is_closure_is c.if-sheet-eq0.false c.if-transfer-gt65535.false c.if-implicit-gt65535.false c.if-sheet-implicit.false c.if-sheet-eq0-2.true

pub overflow_add-sheet : goal.overflow_add-sheet
overflow_add-sheet c = let l = limited c.args.sheet.now.measured in omega arith

pub overflow_cast-result-then-sheet-transfer : goal.overflow_cast-result-then-sheet-transfer
overflow_cast-result-then-sheet-transfer c =
    let l = limited c.args.sheet.now.measured in
    omega arith

pub returns-then-sheet-transfer : goal.returns-then-sheet-transfer
returns-then-sheet-transfer c =
    let n = counted c.args.sheet.now.measured.are in
    behind_closure _ n.param_count_is c.transfer_slots-transfer.ensures.0 n.param_slots_is n.recv_slots_is n.is_closure_is c.if-sheet-eq0.false c.if-transfer-gt65535.false c.if-implicit-gt65535.false c.if-sheet-implicit.false c.if-sheet-eq0-2.false c.if-sheet-transfer.true

pub returns : goal.returns
returns c =
    let n = counted c.args.sheet.now.measured.are in
    nowhere _ n.param_count_is c.transfer_slots-transfer.ensures.0 n.param_slots_is n.recv_slots_is n.is_closure_is c.if-sheet-eq0.false c.if-transfer-gt65535.false c.if-implicit-gt65535.false c.if-sheet-implicit.false c.if-sheet-eq0-2.false c.if-sheet-transfer.false
