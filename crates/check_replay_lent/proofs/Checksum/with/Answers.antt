-- `check_replay_lent::Checksum::with` meets its contract, by the law of loops that put a list into a checksum.
-- Assumes nothing.
use Rattle.std.proofs.Common.{arith, sym, ap, ◌∙◌}
use Rattle.check_replay_lent.specs.Checksum.{with_number}
use Rattle.check_replay_lent.proofs.ChecksumLoop.{checksum_turn, whole}
use Rattle.check_replay_lent.proofs.Checksum.with.Goals as goal

pub loop-x-preserved : goal.loop-x-preserved
loop-x-preserved g c =
    let e = g.met.T.Element in
    let xs = c.args.buffer.now in
    checksum_turn c.loop-x.invariant (omega (arith, e.numbers_long xs, c.loop-x-test.true)) (e.numbers_rest xs c.loop-x.x-index c.x-item.result c.loop-x-test.true)
    (c.with_number-sum-in-loop-x.ensures ∙ ap (λ n. with_number c.loop-x.sum n) (c.number.ensures ∙ ap g.T.Element.number c.x-item.is))

pub returns : goal.returns
returns g c =
    let long = g.met.T.Element.numbers_long c.args.buffer.now in
    whole c.args.self c.loop-x.invariant (omega (arith, long, c.loop-x-test.false))
    (c.with_number-sum.ensures ∙ ap (λ n. with_number c.args.self n) (sym long))
