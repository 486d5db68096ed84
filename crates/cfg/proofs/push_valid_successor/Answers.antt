-- `cfg::push_valid_successor` meets its contract: a target below n, one from n up, a negative one.
-- Assumes nothing.
use mathlib.Core.Path.{ap, ◌∙◌}
use mir.Syntax.{w64}
use mir.ValLaws.{to_z-of_z}
use Rattle.model.specs.Successors.{as_record}
use Rattle.cfg.proofs.TargetTests.{target_inside, target_past_end, target_negative}
use Rattle.cfg.proofs.push_valid_successor.Goals as goal

pub returns-in-Ok : goal.returns-in-Ok
returns-in-Ok c targets e =
    c.push.ensures targets e
    ∙ ap as_record
    (target_inside c.args.n targets c.args.target c.in-Ok.pc
    (rw (to_z-of_z w64 c.args.target c.ranges.target) at c.in-Ok.ensures) c.if-pc-n.true)

pub returns-in_default : goal.returns-in_default
returns-in_default c targets e =
    e
    ∙ ap as_record
    (target_past_end c.args.n targets c.args.target c.in-Ok.pc
    (rw (to_z-of_z w64 c.args.target c.ranges.target) at c.in-Ok.ensures) c.if-pc-n.false)

pub returns-in_default-2 : goal.returns-in_default-2
returns-in_default-2 c targets e =
    e
    ∙ ap as_record
    (target_negative c.args.n targets c.args.target
    (rw (to_z-of_z w64 c.args.target c.ranges.target) at c.in_default.ensures) c.ranges.target.sfits)
