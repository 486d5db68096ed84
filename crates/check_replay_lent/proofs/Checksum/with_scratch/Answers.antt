-- `check_replay_lent::Checksum::with_scratch` meets its contract: one buffer after the other.
-- Assumes nothing.
use Rattle.check_replay_lent.specs.Checksum.{with_scratch}
use Rattle.check_replay_lent.proofs.ChecksumLoop.{behind}
use Rattle.check_replay_lent.proofs.Checksum.with_scratch.Goals as goal

pub returns : goal.returns
unfolding with_scratch
returns c = behind _ (behind _ (behind _ (behind _ c.with.ensures c.with-2.ensures) c.with-3.ensures) c.with-4.ensures) c.with-5.ensures
