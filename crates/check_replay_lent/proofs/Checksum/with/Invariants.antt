-- `check_replay_lent::Checksum::with` meets its contract, by the law of loops that put a list into a checksum.
-- Assumes nothing.
use Rattle.check_replay_lent.specs.Checksum.{with_numbers}
use Rattle.check_replay_lent.proofs.ChecksumLoop.{ChecksumSoFar}
use Rattle.check_replay_lent.proofs.Checksum.with.Given as goal

abbrev pub invariant-loop-x : goal.invariant-loop-x
invariant-loop-x g l =
    let xs = g.T.Element.numbers l.buffer in
    ChecksumSoFar (with_numbers l.initial.sum xs) xs l.sum l.x-index
