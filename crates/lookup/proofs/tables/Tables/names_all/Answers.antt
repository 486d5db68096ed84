-- `Tables::names_all` meets its contract. Assumes nothing.
use mathlib.Core.Path.{◌≡◌, sym, ap, ◌∙◌}
use lib.ListN.{length}
use Rattle.model.specs.Call.{Table}
use Rattle.lookup.proofs.Rows.{rows_none, rows_more, rows_refused}
use Rattle.lookup.proofs.tables.Tables.names_all.Goals as goal

pub loop-pc-init : goal.loop-pc-init
loop-pc-init c = rows_none _ _ _ _

pub returns-then-not-names : goal.returns-then-not-names
returns-then-not-names c =
    let n : length c.self.inside.present.now ≡ length c.args.self.now.present = ap (λ (t : Table). length t.present) c.self.view_is in
    rows_refused _ _ _ _ (length c.args.self.now.present) c.loop-pc.pc (rw n at c.loop-pc-test.true) (sym c.if-not-names.true ∙ c.names.ensures)

pub loop-pc-preserved : goal.loop-pc-preserved
loop-pc-preserved c = rows_more _ _ _ _ c.loop-pc.pc c.loop-pc.invariant (sym c.if-not-names.false ∙ c.names.ensures)
