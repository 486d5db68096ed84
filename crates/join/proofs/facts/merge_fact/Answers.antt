-- `join::facts::merge_fact` meets its contract: a law for each way out.
-- Assumes nothing.
use Rattle.model.specs.Tables.{fact_in}
use Rattle.join.proofs.CellJoins.{conflicts, unknowns, equal_stays, different_conflict}
use Rattle.join.proofs.facts.merge_fact.Goals as goal

pub returns-then-new-eq1 : goal.returns-then-new-eq1
unfolding fact_in
returns-then-new-eq1 c = conflicts _ _ _ _ _ c.if-new-eq1.either

pub returns-then-new-eq0 : goal.returns-then-new-eq0
unfolding fact_in
returns-then-new-eq0 c = unknowns _ _ _ _ _ c.if-new-eq1.false c.if-new-eq0.either

pub returns-then-equal : goal.returns-then-equal
unfolding fact_in
returns-then-equal c = equal_stays _ _ _ _ _ c.if-new-eq1.false c.if-new-eq0.false c.if-equal.true

pub returns-else-equal : goal.returns-else-equal
unfolding fact_in
returns-else-equal c = different_conflict _ _ _ _ _ c.if-new-eq1.false c.if-new-eq0.false c.if-equal.false
