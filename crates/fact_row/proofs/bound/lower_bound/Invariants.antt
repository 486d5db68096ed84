-- `fact_row::bound::lower_bound` meets its contract: each turn halves the part in which the bound lies. Assumes nothing.
use Rattle.fact_row.proofs.Ascending.{Halved}
use Rattle.fact_row.proofs.bound.lower_bound.Given as goal

abbrev pub invariant-loop-size : goal.invariant-loop-size
invariant-loop-size l = Halved l.slots l.slot l.base l.size

abbrev pub decreases-loop-size : goal.decreases-loop-size
decreases-loop-size l = l.size
