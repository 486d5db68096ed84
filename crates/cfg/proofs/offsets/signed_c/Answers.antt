-- `cfg::offsets::signed_c` meets its contract: std's reading of the bits as signed is the rule's.
-- Assumes nothing.
use mathlib.Core.Path.{◌∙◌}
use mir.Syntax.{w16, w32}
use mir.ValLaws.{to_z-of_z}
use Rattle.model.specs.Successors.{signed}
use Rattle.cfg.proofs.SignedOffsets.{read_signed}
use Rattle.cfg.proofs.offsets.signed_c.Goals as goal

pub returns : goal.returns
unfolding signed
returns c =
    to_z-of_z w32 c.from.result record { sfits = c.from.type_inv }
    ∙ c.from.ensures
    ∙ read_signed w16 c.args.inst.c c.cast_signed.result c.cast_signed.type_inv c.cast_signed.ensures
