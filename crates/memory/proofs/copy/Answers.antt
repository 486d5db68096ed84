-- `copy` meets its contract: each turn is one element more.
-- Assumes nothing.
use mathlib.Core.Path.{refl, ◌∙◌}
use native.Mathlib.Numerals.{add-one}
use Rattle.memory.proofs.StoreLoops.{copied_more, copied_all}
use Rattle.memory.proofs.copy.Goals as goal

pub loop-i-init : goal.loop-i-init
loop-i-init g c = refl

pub loop-i-preserved : goal.loop-i-preserved
loop-i-preserved g c =
    rw (add-one c.loop-i.i, c.loop-i.invariant) (copied_more c.args.from.now c.args.to.now c.loop-i.i c.index-from-i.result c.requires c.loop-i-test.true c.index-from-i.is)

pub returns : goal.returns
returns g c = c.loop-i.invariant ∙ copied_all c.args.from.now c.args.to.now c.loop-i.i c.requires c.loop-i-test.false
