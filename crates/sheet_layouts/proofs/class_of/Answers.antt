-- `sheet_layouts::class_of` meets its contract: a law for each way out.
-- Assumes nothing.
use Rattle.sheet_layouts.proofs.Classes.{class_at, class_none, class_last}
use Rattle.sheet_layouts.proofs.class_of.Goals as goal

pub returns-then-i-n : goal.returns-then-i-n
returns-then-i-n c = class_at c.args.classes.now c.args.i c.if-i-n.true

pub returns-then-n-eq0 : goal.returns-then-n-eq0
returns-then-n-eq0 c = class_none c.args.classes.now c.args.i c.if-n-eq0.true

pub returns : goal.returns
returns c = class_last c.args.classes.now c.args.i c.if-i-n.false
