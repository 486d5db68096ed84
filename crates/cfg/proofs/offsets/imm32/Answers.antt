-- `cfg::offsets::imm32` meets its contract: std's reading of the bits as signed is the rule's.
-- Assumes nothing.
use Rattle.model.specs.Successors.{signed, imm32}
use Prim.Native.Nat.{◌+◌, ◌*◌}
use mir.Syntax.{w32}
use Rattle.cfg.proofs.SignedOffsets.{read_signed}
use Rattle.cfg.proofs.offsets.imm32.Goals as goal

pub returns : goal.returns
unfolding signed imm32
returns c = read_signed w32 (c.args.inst.b + 65536 * c.args.inst.c) c.cast_signed.result c.cast_signed.type_inv c.cast_signed.ensures
