-- `text_listing::rows_lines` meets its contract. Assumes nothing.
use mathlib.Core.Path.{◌≡◌, sym, ap}
use Prim.Native.Nat.{ℕ, ◌+◌, ◌*◌}
use native.Mathlib.Omega.{arith}
use native.Mathlib.Nat.{suc-mul, zero-mul}
use native.Mathlib.Numerals.{add-one}
use Rattle.model.specs.Call.{Table}
use Rattle.text_facts.specs.Text.{fact_text_by}
use Rattle.text_listing.proofs.RowLines.{walked_none, walked_more}
use Rattle.text_listing.proofs.rows.rows_lines.Goals as goal

next-from : (pc from s : ℕ) → from ≡ pc * s → from + s ≡ (pc + 1) * s
next-from pc from s e = omega (arith, add-one pc, suc-mul pc s)

pub loop-pc-init : goal.loop-pc-init
loop-pc-init c =
    let a = c.args in
    (sym (zero-mul a.s), walked_none (fact_text_by a.printer.now.which a.printer.now.classes.now) a.s a.tables.now a.page.now)

pub loop-pc-preserved : goal.loop-pc-preserved
loop-pc-preserved c =
    let a = c.args in
    let l = c.loop-pc in
    let v = c.tables.view_is in
    let row =
    rw (ap (λ (t : Table). t.slots) v, ap (λ (t : Table). t.present) v, ap (λ (t : Table). t.kinds) v, ap (λ (t : Table). t.values) v) at c.row_lines.ensures
    in
    (next-from l.pc l.from a.s l.invariant.0, walked_more (fact_text_by a.printer.now.which a.printer.now.classes.now) a.s a.tables.now l.pc l.from c.requires.0 l.invariant.0 l.invariant.1 row)
