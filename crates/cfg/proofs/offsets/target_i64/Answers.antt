-- `cfg::offsets::target_i64` meets its contract: the sum of a small number and an offset of 32 bits does not wrap at 64.
-- Assumes nothing.
use native.Mathlib.Omega.{arith}
use mir.Syntax.{w32}
use Rattle.cfg.proofs.SignedOffsets.{sum_fits, sum_is}
use Rattle.cfg.proofs.offsets.target_i64.Goals as goal

pub overflow_add-result : goal.overflow_add-result
overflow_add-result c =
    rw c.from.ensures (sum_fits w32 c.args.from c.args.offset c.ranges.offset (omega arith) (omega arith))

pub returns : goal.returns
returns c = rw c.from.ensures (sum_is w32 c.args.from c.args.offset c.ranges.offset (omega arith) (omega arith))
