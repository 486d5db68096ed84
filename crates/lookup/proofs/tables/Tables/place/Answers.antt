-- `Tables::place` meets its contract. Assumes nothing.
use mathlib.Core.Path.{sym, ap, ◌∙◌}
use Rattle.model.specs.Call.{Table}
use Rattle.fact_row.specs.Place.{placed}
use Rattle.lookup.proofs.Agreement.{agreed}
use Rattle.lookup.proofs.LookupAnswers.{found}
use Rattle.lookup.proofs.tables.Tables.place.Goals as goal

pub find-requires : goal.find-requires
find-requires c = rw (ap (λ (t : Table). t.slots) c.self.view_is) (agreed _ _ _ _ (sym c.agree.ensures ∙ c.if-agree.true)).ordered

pub returns-then-agree : goal.returns-then-agree
returns-then-agree c =
    found c.args.self.now c.args.slot (placed c.find.result) (rw (ap (λ (t : Table). t.slots) c.self.view_is, c.from.ensures) at c.find.ensures)
    (sym c.agree.ensures ∙ c.if-agree.true)
