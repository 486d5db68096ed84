-- `sheet_layouts::Layouts::lowest` meets its contract. Assumes nothing.
use Rattle.sheet_layouts.proofs.LowestSearch.{None, Alike}
use Rattle.sheet_layouts.proofs.Layouts.lowest.Given as goal

abbrev pub invariant-outer : goal.invariant-outer
invariant-outer l = None l.self.sheet.now.bytes.now l.n l.j

abbrev pub invariant-loop-k : goal.invariant-loop-k
invariant-loop-k l = None l.self.sheet.now.bytes.now l.n l.j × Alike l.own l.other l.k
