-- `sheet_layouts::Layouts::layout_classes` meets its contract. The loop's invariant: the first i places have their classes, and the others that of y.
-- Assumes nothing.
use Prim.Native.Nat.{◌<◌}
use lib.ListN.{length}
use Rattle.model.specs.Listing.{lowest}
use Rattle.memory.proofs.StoreLoops.{Turned}
use Rattle.sheet_layouts.proofs.Layouts.layout_classes.Given as goal

abbrev pub invariant-loop-i : goal.invariant-loop-i
invariant-loop-i l = (l.y < length l.initial.classes) × Turned (lowest l.self.sheet.now.bytes.now) l.initial.classes l.classes l.i
