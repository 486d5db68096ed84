-- `sheet_layouts::Layouts::layout_classes` meets its contract. The loop's invariant: the first i places have their classes, and the others that of y.
-- Assumes nothing.
use native.Mathlib.Omega.{arith}
use Rattle.std.proofs.Common.{rules}
use Rattle.memory.proofs.StoreLoops.{turned_none, turn}
use Rattle.sheet.proofs.SizeNames.{counted}
use Rattle.sheet_layouts.proofs.Classes.{all_classes, class_fits}
use Rattle.sheet_layouts.proofs.Layouts.layout_classes.Goals as goal

pub overflow_cast-lowest : goal.overflow_cast-lowest
overflow_cast-lowest c = omega (arith, class_fits c.args.self.now.readable _ (omega arith) c.lowest.ensures)

pub loop-i-init : goal.loop-i-init
loop-i-init c = (omega (arith, c.fill.ensures.len), turned_none _ _)

pub overflow_cast-classes : goal.overflow_cast-classes
overflow_cast-classes c = omega (arith, class_fits c.args.self.now.readable _ (omega arith) c.lowest-in-loop-i.ensures)

pub loop-i-preserved : goal.loop-i-preserved
loop-i-preserved c =
    let q = c.loop-i.invariant in
    (q.0, turn q.1 (omega (arith, q.1.long)) c.lowest-in-loop-i.ensures)

pub returns : goal.returns
returns c =
    let q = c.loop-i.invariant in
    all_classes c.args.self.now.sheet.now.bytes.now c.args.classes.now (counted c.args.self.now.readable.accepted.are).layout_count_is
    c.lowest.ensures (c.fill.ensures.after (λ y s. search rules)) q.1 (omega arith)
