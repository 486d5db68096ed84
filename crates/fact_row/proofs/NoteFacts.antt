-- The fact of a note.
-- Assumes nothing.
use mathlib.Core.Path.{◌≡◌}
use mathlib.Core.Logic.{◌≢◌}
use mathlib.Core.List.{List}
use Prim.Native.Nat.{ℕ}
use borrow.Author.Tests.{ne_eqb}
use Rattle.model.specs.Fact.{unknown}
use Rattle.model.specs.Sheet.{instruction}
use Rattle.model.specs.Transfer.{instruction_fact_by, instruction_fact, or_unknown}

-- only the two opcodes have one
pub no_container : (sheet : List ℕ) (pc : ℕ) {op : ℕ} → op ≡ (instruction sheet pc).op → op ≢ 89 → op ≢ 96 → or_unknown (instruction_fact sheet pc) ≡ unknown
unfolding instruction_fact instruction_fact_by or_unknown
no_container sheet pc {op} o h k = rw (← o, ne_eqb op 89 h, ne_eqb op 96 k)
