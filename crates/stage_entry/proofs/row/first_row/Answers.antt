-- `stage_entry::first_row` meets its contract. Assumes nothing.
use Rattle.sheet.proofs.SizeNames.{counted}
use Rattle.stage_entry.proofs.FirstRows.{constant_row, index_row, container_row_lem}
use native.Mathlib.Omega.{arith}
use Rattle.stage_entry.proofs.row.first_row.Goals as goal

pub returns-in-Constant : goal.returns-in-Constant
returns-in-Constant c =
    let a = c.args in
    constant_row a.which a.sheet.now.bytes.now a.resources a.row.now c.in-Constant.is c.requires.0

pub returns-in-IndexCheck : goal.returns-in-IndexCheck
returns-in-IndexCheck c =
    let a = c.args in
    index_row a.which a.sheet.now.bytes.now a.resources a.row.now c.in-IndexCheck.is c.requires.0

pub returns-in-Container : goal.returns-in-Container
returns-in-Container c =
    let a = c.args in
    let n = counted c.args.sheet.now.measured.are in
    container_row_lem a.which a.sheet.now.bytes.now a.resources a.row.now c.in-Container.is (omega arith) c.requires.2 c.container_row.ensures
