-- `EndedTables::row_fact` meets its contract. Assumes nothing.
use mathlib.Core.Path.{sym, ap, ◌∙◌}
use native.Mathlib.Omega.{arith}
use Rattle.fact_row.specs.Place.{placed}
use Rattle.call_order.proofs.EndedTables.{table_inside, absent_fact, untracked_fact, tracked_fact_lem}
use Rattle.call_order.proofs.facts.EndedTables.row_fact.Goals as goal

pub returns-then-self-pc-eq0 : goal.returns-then-self-pc-eq0
returns-then-self-pc-eq0 c rows e = absent_fact e c.args.pc c.args.slot c.if-self-pc-eq0.true

pub returns-in_default : goal.returns-in_default
returns-in_default c rows e = untracked_fact e c.args.pc c.args.slot (sym c.find.ensures ∙ ap placed c.in_default.is)

pub overflow_add-at : goal.overflow_add-at
overflow_add-at c = omega (arith, table_inside _ _ c.args.self.now.kinds_long c.args.pc c.args.slot c.requires (sym c.find.ensures ∙ ap placed c.in-Some.is))

pub bounds-self-at : goal.bounds-self-at
bounds-self-at c = table_inside _ _ c.args.self.now.kinds_long c.args.pc c.args.slot c.requires (sym c.find.ensures ∙ ap placed c.in-Some.is)

pub offset_bounds-self-at : goal.offset_bounds-self-at
offset_bounds-self-at c = omega (arith, table_inside _ _ c.args.self.now.values_long c.args.pc c.args.slot c.requires (sym c.find.ensures ∙ ap placed c.in-Some.is))

pub bounds-self-at-2 : goal.bounds-self-at-2
bounds-self-at-2 c = table_inside _ _ c.args.self.now.values_long c.args.pc c.args.slot c.requires (sym c.find.ensures ∙ ap placed c.in-Some.is)

pub returns : goal.returns
returns c rows e = tracked_fact_lem e c.args.pc c.args.slot c.requires c.if-self-pc-eq0.false (sym c.find.ensures ∙ ap placed c.in-Some.is)
