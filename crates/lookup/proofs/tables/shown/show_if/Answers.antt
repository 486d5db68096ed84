-- `show_if` meets its contract. Assumes nothing.
use Rattle.model.specs.Lookup.{show_if}
use borrow.Author.Tests.{eq-eqb, ne_eqb}
use Rattle.lookup.proofs.tables.shown.show_if.Goals as goal

pub returns-then-byte-eq1 : goal.returns-then-byte-eq1
unfolding show_if
returns-then-byte-eq1 c = rw (eq-eqb _ _ c.if-byte-eq1.true) c.show.ensures

pub returns-else-byte-eq1 : goal.returns-else-byte-eq1
unfolding show_if
returns-else-byte-eq1 c = rw (ne_eqb _ _ c.if-byte-eq1.false)
