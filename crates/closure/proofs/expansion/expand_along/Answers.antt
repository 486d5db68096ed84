-- `closure::expand_along` meets its contract: from the state that lies in marks and stack the closure goes on with what is left.
-- Assumes nothing.
use Rattle.std.proofs.Common.{rules, ℕ, replicate, refl, ap, ◌∙◌, arith}
use Rattle.model.specs.Closure.{seeded}
use Rattle.model.specs.Call.{zeros}
use Rattle.finality.proofs.Lengths.{zeros_same}
use Rattle.budget.proofs.Outcomes.{covered_leaves, stopped_leaves}
use Rattle.closure.proofs.ExpandLoop.{at_last, zero_lies, zero_room, lies_room, expanding_begun, expanding_standing, expanding_less, expanding_on, expanding_refused, expanding_done, expanding_empty}
use Rattle.closure.proofs.expansion.expand_along.Goals as goal

pub invariant_of-marked : goal.invariant_of-marked
invariant_of-marked c = record { room = zero_room c.args.sheet.now.measured c.requires.0 }

pub loop-marked-init : goal.loop-marked-init
unfolding seeded
loop-marked-init c =
    (expanding_begun _ _ (lies_room (c.seed_slots.ensures.steps.goes.on (zero_lies c.args.sheet.now.measured c.requires.0))), refl, refl)

pub take_slot-count-requires : goal.take_slot-count-requires
take_slot-count-requires c =
    let asked = c.requires in
    (c.loop-marked-test.true, expanding_standing _ _ c.loop-marked.invariant.0, asked.1)

pub returns-in_default : goal.returns-in_default
returns-in_default c =
    let asked = c.requires in
    let now = c.loop-marked.invariant.0 in
    let after = c.take_slot-count.ensures.lies now.lies in
    let stops = expanding_refused _ _ now c.loop-marked-test.true c.take_slot-count.ensures c.charge_work.ensures
    c.stage_number-stage.ensures c.metered-charged.result c.metered-charged.ensures c.in_default.not-Ok in
    at_last c.clear.new.out c.clear-in_default.new.out (search rules) (search rules) (record {
      closes = stopped_leaves stops _ (c.clear.ensures ∙ zeros_same _ _ (omega (arith, after.wide, asked.0.wide)));
      no_entries = c.clear-in_default.ensures ∙ zeros_same _ _ (after.long ∙ (c.seed_slots.ensures.steps.goes.on (zero_lies c.args.sheet.now.measured asked.0)).long);
    })

pub loop-marked-smaller : goal.loop-marked-smaller
loop-marked-smaller c =
    expanding_less _ _ c.loop-marked.invariant.0 c.loop-marked-test.true c.take_slot-count.ensures

pub loop-marked-preserved : goal.loop-marked-preserved
loop-marked-preserved c =
    let took = c.take_slot-count.ensures in
    let before = c.loop-marked.invariant in (
      expanding_on _ _ before.0 c.loop-marked-test.true took c.charge_work.ensures
          c.stage_number-stage.ensures c.metered-charged.result c.metered-charged.ensures c.in-Ok.is,
      took.same_marks ∙ before.1,
      took.same_stack ∙ before.2,
    )

pub returns : goal.returns
unfolding zeros
returns c =
    let asked = c.requires in
    let ended = c.loop-marked.invariant.0 in
    at_last c.loop-marked.marked.marks.now c.loop-marked.marked.stack.now (search rules) (search rules) (record {
      closes = covered_leaves _ _ (expanding_done _ _ ended c.loop-marked-test.false) refl ended.lies.marks_are;
      no_entries = expanding_empty _ _ ended c.loop-marked-test.false
          ∙ ap (λ (k : ℕ). replicate k 0) (c.seed_slots.ensures.steps.goes.on (zero_lies c.args.sheet.now.measured asked.0)).long;
    })
