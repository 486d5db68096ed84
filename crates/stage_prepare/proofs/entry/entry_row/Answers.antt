-- `entry_row` meets its contract: the matrix charge is refused, or the first row follows it.
-- Assumes nothing.
use borrow.Author.Rules.{rules}
use Rattle.sheet.proofs.SizeLimits.{limited}
use Rattle.stage_entry.proofs.Refusals.{refused_not_covered, leaves_again}
use Rattle.stage_prepare.proofs.EntryRow.{zero_writable, zero_is, enter_refused, enter_covered}
use Rattle.stage_prepare.proofs.entry.entry_row.Goals as goal

pub charge_matrix-requires : goal.charge_matrix-requires
charge_matrix-requires c = let asked = c.requires in ((limited c.args.sheet.now.measured).code_count_is, asked.4)

pub returns-in_err-left : goal.returns-in_err-left
returns-in_err-left c =
    let a = c.args in
    leaves_again c.from_residual.result c.in_err-left.was c.from_residual.ensures.1
    (enter_refused _ _ _ a.slots.now a.resources c.charge_matrix.result c.args.sheet.now.measured c.charge_matrix.ensures (refused_not_covered c.in_err-left.was) c.requires.1)

pub invariant_of-row : goal.invariant_of-row
invariant_of-row c = record { writable = zero_writable c.requires.0 c.requires.1 }

pub first_row-requires : goal.first_row-requires
first_row-requires c = (zero_is c.requires.1, c.requires.2, c.requires.3)

pub returns : goal.returns
returns c =
    let a = c.args in
    enter_covered _ _ _ a.slots.now a.resources _ a.sheet.now.measured c.charge_matrix.ensures c.in_ok-left.was c.first_row.ensures.leaves (search rules) (search rules)
