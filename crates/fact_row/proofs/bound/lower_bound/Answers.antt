-- `fact_row::bound::lower_bound` meets its contract: each turn halves the part in which the bound lies. Assumes nothing.
use Rattle.fact_row.proofs.Ascending.{halved}
use Rattle.fact_row.proofs.bound.lower_bound.Goals as goal

pub loop-size-preserved : goal.loop-size-preserved
loop-size-preserved c = halved c.loop-size.invariant c.requires c.loop-size-test.true c.from.ensures c.half_of-base.ensures
