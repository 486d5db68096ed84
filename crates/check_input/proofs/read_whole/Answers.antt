-- `check_input::read_whole` meets its contract. Assumes nothing.
use Rattle.std.proofs.Common.{arith, ◌∙◌}
use Rattle.check_input.proofs.BufferReads.{still_behind, piece_came}
use Rattle.check_input.proofs.read_whole.Goals as goal

pub loop-done-preserved : goal.loop-done-preserved
loop-done-preserved g c =
    let l = c.loop-done in
    let p = piece_came c.read_to.result _ _ c.read_to.ensures.came c.in_ok-count.ensures in
    (omega (arith, p.1, p.2.0, c.read_to.auto.buffer), c.read_to.auto.buffer ∙ l.invariant.1, rw p.1 (still_behind _ l.buffer _ l.done p.0 l.invariant.2 p.2.1))
