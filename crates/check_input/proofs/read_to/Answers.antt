-- `check_input::read_to` meets its contract: behind a part that is written the buffer is as it was. Assumes nothing.
use Rattle.std.proofs.Common.{arith, ◌≤◌, ◌+◌, length}
use Rattle.std.proofs.lemmas.Slice.{drop-put_mid}
use Rattle.check_input.proofs.read_to.Goals as goal

pub returns-clause-came : goal.returns-clause-came
returns-clause-came g c =
    let fits : c.args.to + c.in_ok-count.count ≤ length c.args.buffer.now = omega (arith, c.min-most.ensures, c.in_ok-count.ensures.room, c.requires) in
    (fits, drop-put_mid _ _ _ _ _ (omega arith) c.requires (omega (arith, c.copy_from_slice.ensures.len, c.copy_from_slice.auto.self)))
