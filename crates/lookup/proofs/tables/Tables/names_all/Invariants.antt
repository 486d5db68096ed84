-- `Tables::names_all` meets its contract. Assumes nothing.
use mathlib.Core.Path.{◌≡◌}
use mathlib.Core.Bool.{true}
use lib.ListN.{length}
use Rattle.fact_row.specs.Place.{placed}
use Rattle.lookup.specs.Inside.{rows_named}
use Rattle.lookup.proofs.tables.Tables.names_all.Given as goal

abbrev pub invariant-loop-pc : goal.invariant-loop-pc
invariant-loop-pc l = rows_named (length l.self.slots) l.self.present l.self.kinds (placed l.at) l.pc ≡ true
