-- `transfer::row::set_checked` meets its contract: IndexCheck puts its fact, any other leaves the row. Assumes nothing.
use Rattle.fact_row.proofs.FactSet.{same_self}
use Rattle.transfer.proofs.RowTransfers.{index_checked_lem, not_checked}
use Rattle.transfer.proofs.row.set_checked.Goals as goal

pub returns-then-checks_index : goal.returns-then-checks_index
returns-then-checks_index c = record {
  same = c.set.ensures.same;
  checked = λ row l.
      index_checked_lem c.args.inst _ c.args.out.now row l c.checks_index.ensures c.if-checks_index.true c.from.ensures c.checked_cell-checked.ensures c.set.ensures;
}

pub returns-else-checks_index : goal.returns-else-checks_index
returns-else-checks_index c = record {
  same = same_self;
  checked = λ row l. not_checked c.args.inst _ c.args.out.now row l c.checks_index.ensures c.if-checks_index.false;
}
