-- `check_replay_lent::rooms::front` meets its contract: the front that is written is the pattern.
-- Assumes nothing.
use Rattle.std.proofs.Common.{arith, ◌≡◌, refl, ap, ◌∙◌}
use lib.ListN.{length-set}
use Rattle.memory.proofs.Front.{front_none, front_more}
use Rattle.check_replay_lent.proofs.rooms.front.Goals as goal

pub loop-i-init : goal.loop-i-init
loop-i-init g c = (omega arith, refl, front_none _ c.args.room.now)

pub loop-i-preserved : goal.loop-i-preserved
loop-i-preserved g c =
    let l = c.loop-i in
    (omega (arith, c.loop-i-test.true), length-set l.room l.i _ ∙ l.invariant.1, front_more _ l.i c.args.room.now l.invariant.2 c.repeated.ensures)

pub returns : goal.returns
returns g c =
    let l = c.loop-i in
    let e : l.i ≡ c.lent_length-end.result = omega (arith, c.loop-i-test.false, l.invariant.0) in
    rw (l.invariant.2, e) (g.met.T.Element.pattern_filled c.args.room.now c.lent_length-end.result (omega (arith, c.lent_length-end.ensures.0, c.requires.0))
    ∙ ap g.T.Element.pattern c.lent_length-end.ensures.1)
