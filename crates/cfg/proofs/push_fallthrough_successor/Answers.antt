-- `cfg::push_fallthrough_successor` meets its contract: the next instruction is a target from 0 up.
-- Assumes nothing.
use mathlib.Core.Path.{sym, ap, ◌∙◌}
use lib.IntN.{pos}
use Prim.Native.Nat.{◌+◌}
use Rattle.model.specs.Successors.{push_fallthrough, as_record}
use Rattle.cfg.proofs.TargetTests.{past_end, inside}
use Rattle.cfg.proofs.push_fallthrough_successor.Goals as goal

pub returns-then-next-n : goal.returns-then-next-n
unfolding push_fallthrough
returns-then-next-n c targets e =
    c.push.ensures targets e ∙ sym (ap as_record (inside c.args.n targets (c.args.pc + 1) c.if-next-n.true))

pub returns-else-next-n : goal.returns-else-next-n
unfolding push_fallthrough
returns-else-next-n c targets e = e ∙ sym (ap as_record (past_end c.args.n targets (pos (c.args.pc + 1)) c.if-next-n.false))
