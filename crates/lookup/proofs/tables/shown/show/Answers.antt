-- `show` meets its contract. Assumes nothing.
use mathlib.Core.Path.{◌∙◌, sym}
use Rattle.lookup.proofs.FixedSlots.{not_known, first_shown, shown_again, shows_other, still_mixed}
use Rattle.lookup.proofs.tables.shown.show.Goals as goal

pub returns-then-cell-lt2 : goal.returns-then-cell-lt2
returns-then-cell-lt2 c = not_known c.args.cell c.args.seen c.if-cell-lt2.true

pub returns-in-Nothing : goal.returns-in-Nothing
returns-in-Nothing c = first_shown c.args.cell c.args.seen c.if-cell-lt2.false c.in-Nothing.is

pub returns-then-eq : goal.returns-then-eq
returns-then-eq c = shown_again c.args.cell c.args.seen c.if-cell-lt2.false (record { kind = c.in-One.kind; value = c.in-One.value }) c.in-One.is (sym c.eq.ensures ∙ c.if-eq.true)

pub returns-else-eq : goal.returns-else-eq
returns-else-eq c = shows_other c.args.cell c.args.seen c.if-cell-lt2.false (record { kind = c.in-One.kind; value = c.in-One.value }) c.in-One.is (sym c.eq.ensures ∙ c.if-eq.false)

pub returns-in-Mixed : goal.returns-in-Mixed
returns-in-Mixed c = still_mixed c.args.cell c.args.seen c.if-cell-lt2.false c.in-Mixed.is
