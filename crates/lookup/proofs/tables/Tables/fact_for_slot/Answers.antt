-- `Tables::fact_for_slot` meets its contract. Assumes nothing.
use mathlib.Core.Path.{ap}
use Rattle.std.proofs.lemmas.Result.{err_from_is_err_and}
use Rattle.model.specs.Lookup.{fact_with_numbers}
use Rattle.lookup.proofs.LookupAnswers.{tables_damaged, row_damaged, row_answered}
use Rattle.lookup.proofs.tables.Tables.fact_for_slot.Goals as goal

pub returns-in_err-at : goal.returns-in_err-at
returns-in_err-at c =
    let p = err_from_is_err_and c.from_residual.result c.from_residual.ensures.1 in
    rw p.1 (ap fact_with_numbers (tables_damaged c.args.self.now c.args.slot c.args.which c.args.pc c.in_err-at.ensures))

pub returns-then-names : goal.returns-then-names
returns-then-names c =
    ap fact_with_numbers (row_answered c.args.self.now c.args.slot c.args.which c.args.pc c.in_ok-at.ensures c.last_kind.ensures c.names.ensures c.if-names.true c.cell.ensures)

pub returns-else-names : goal.returns-else-names
returns-else-names c =
    ap fact_with_numbers (row_damaged c.args.self.now c.args.slot c.args.which c.args.pc c.in_ok-at.ensures c.last_kind.ensures c.names.ensures c.if-names.false)
