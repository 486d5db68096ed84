-- `Tables::fixed_fact` meets its contract. Assumes nothing.
use mathlib.Core.Path.{ap}
use Rattle.std.proofs.lemmas.Result.{err_from_is_err_and}
use Rattle.model.specs.Lookup.{fact_with_numbers}
use Rattle.lookup.proofs.LookupAnswers.{fixed_damaged, fixed_row_damaged, fixed_answered}
use Rattle.lookup.proofs.tables.Tables.fixed_fact.Goals as goal

pub returns-in_err-at : goal.returns-in_err-at
returns-in_err-at c =
    let p = err_from_is_err_and c.from_residual.result c.from_residual.ensures.1 in
    rw p.1 (ap fact_with_numbers (fixed_damaged c.args.self.now c.args.slot c.in_err-at.ensures))

pub returns-then-names_all : goal.returns-then-names_all
returns-then-names_all c = ap fact_with_numbers (fixed_answered c.args.self.now c.args.slot c.in_ok-at.ensures c.names_all.ensures c.if-names_all.true c.fixed_at.ensures)

pub returns-else-names_all : goal.returns-else-names_all
returns-else-names_all c = ap fact_with_numbers (fixed_row_damaged c.args.self.now c.args.slot c.in_ok-at.ensures c.names_all.ensures c.if-names_all.false)
