-- `cfg::push` meets its contract: an equal second target, another one.
-- Assumes nothing.
use mathlib.Core.Path.{◌≡◌, sym, ap, ◌∙◌}
use mathlib.Core.Logic.{◌≢◌}
use lib.ListN.{get_or}
use Rattle.model.specs.Successors.{as_record}
use Rattle.cfg.proofs.TargetTests.{push_equal, push_new}
use Rattle.cfg.proofs.push.Goals.{else-successors-eq1-via-then-successors-eq1+else-pc-successors, else-successors-eq1-via-else-successors-eq1}
use Rattle.cfg.proofs.push.Goals as goal

pub returns-then-pc-successors : goal.returns-then-pc-successors
returns-then-pc-successors c targets e =
    e ∙ sym (ap as_record (push_equal c.args.successors c.args.pc c.if-successors-eq1.true c.if-pc-successors.true targets e))

pub returns : goal.returns
returns c targets e =
    c.with.ensures targets e ∙ sym (ap as_record (push_new c.args.successors c.args.pc c.requires unequal targets e))
  where
    unequal : c.args.successors.len ≡ 1 → c.args.pc ≢ get_or c.args.successors.pcs 0 0
    unequal one = elim c.else-successors-eq1.branch [
      | else-successors-eq1-via-then-successors-eq1+else-pc-successors w ↦ w.if-pc-successors.false
      | else-successors-eq1-via-else-successors-eq1 w ↦ absurd (w.if-successors-eq1.false one)
    ]
