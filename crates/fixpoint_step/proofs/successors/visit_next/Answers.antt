-- `visit_next` meets its contract: one more is visited where there is one.
-- Assumes nothing.
use Rattle.fixpoint_step.proofs.TwoSuccessors.{next_news, next_known, next_none}
use Rattle.fixpoint_step.proofs.successors.visit_next.Goals as goal

pub join_into-requires : goal.join_into-requires
join_into-requires c = record { below = c.requires.below (rw c.from.ensures at c.if-k-from.true); visitable = c.requires.visitable }

pub with-requires : goal.with-requires
with-requires c = c.requires.room (rw c.from.ensures at c.if-k-from.true)

pub returns-then-join_into : goal.returns-then-join_into
returns-then-join_into c =
    next_news _ _ _ _ _ _ c.requires _ _ _ (rw c.from.ensures at c.if-k-from.true) c.join_into.ensures c.if-join_into.true c.with.ensures

pub returns-else-join_into : goal.returns-else-join_into
returns-else-join_into c =
    next_known _ _ _ _ _ _ c.requires _ _ (rw c.from.ensures at c.if-k-from.true) c.join_into.ensures c.if-join_into.false

pub returns-else-k-from : goal.returns-else-k-from
returns-else-k-from c = next_none _ _ _ _ _ _ c.requires (rw c.from.ensures at c.if-k-from.false)
