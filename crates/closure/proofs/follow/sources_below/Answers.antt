-- `closure::sources_below` meets its contract: each way out is one case of the two tests.
-- Assumes nothing.
use Rattle.std.proofs.Common.{le-ltb, lt-ltb}
use Rattle.closure.specs.Sources.{only_if}
use Rattle.closure.proofs.follow.sources_below.Goals as goal

pub returns-then-first-l : goal.returns-then-first-l
unfolding only_if
returns-then-first-l c = rw (lt-ltb _ _ c.if-first-l.true, c.if-fold-second.true)

pub returns-then-fold-second : goal.returns-then-fold-second
unfolding only_if
returns-then-fold-second c = rw (le-ltb _ _ c.if-first-l.false, c.if-fold-second.true)

pub returns-then-first-l-2 : goal.returns-then-first-l-2
unfolding only_if
returns-then-first-l-2 c = rw (lt-ltb _ _ c.if-first-l-2.true, c.if-fold-second.false)

pub returns-else-first-l-2 : goal.returns-else-first-l-2
unfolding only_if
returns-else-first-l-2 c = rw (le-ltb _ _ c.if-first-l-2.false, c.if-fold-second.false)
