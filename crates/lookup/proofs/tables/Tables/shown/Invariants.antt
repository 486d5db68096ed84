-- `Tables::shown` meets its contract. Assumes nothing.
use mathlib.Core.Path.{◌≡◌}
use Prim.Native.Nat.{◌-◌, ◌≤◌}
use lib.ListN.{length}
use Rattle.model.specs.Lookup.{shown}
use Rattle.lookup.specs.Shown.{shown_by}
use Rattle.lookup.proofs.tables.Tables.shown.Given as goal

abbrev pub invariant-loop-pc : goal.invariant-loop-pc
invariant-loop-pc l =
    let t = l.self-inside in
    (l.pc - 1 ≤ length t.present.now - 1) × (shown_by l.seen ≡ shown l.s t.present.now t.kinds.now t.values.now l.j (l.pc - 1))
