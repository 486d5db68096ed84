-- `run_to_fixpoint` meets its contract: instruction 0 gets the first row, the loop passes through the states of the defined run, and what is over is cleared.
-- Assumes nothing.
use mathlib.Core.Path.{◌∙◌}
use Prim.Native.Nat.{◌<◌}
use native.Mathlib.Omega.{arith}
use lib.ListN.{length}
use Rattle.fixpoint.proofs.FirstTurn.{turn_lengths, start_joins, start_turn}
use Rattle.fixpoint.proofs.LoopTurns.{turn_ends, turn_refused, stepping, few_to_enter, enter_asks, stepped}
use Rattle.fixpoint.proofs.RunEnds.{all_zero}
use Rattle.fixpoint.proofs.list.run_to_fixpoint.Goals as goal
use Rattle.fixpoint.proofs.list.run_to_fixpoint.Goals.{then-loop-top-test+else-cost-rest, else-loop-top-test}

-- before the loop
pub join_into-requires : goal.join_into-requires
join_into-requires c = start_joins c.args.analysis.now c.args.resources c.requires

pub loop-top-init : goal.loop-top-init
loop-top-init c =
    start_turn c.args.analysis.now c.args.resources c.requires _ _ c.join_into.ensures
    c.enter-top.ensures.0 c.enter-top.ensures.1

-- a turn
pub step-news-requires : goal.step-news-requires
step-news-requires c =
    stepping c.args.resources c.loop-top.invariant c.loop-top-test.true c.if-cost-rest.true c.take-p.ensures.0

pub shared_ref_as_front-entries : goal.shared_ref_as_front-entries
shared_ref_as_front-entries c =
    few_to_enter c.args.resources c.loop-top.invariant c.loop-top-test.true
    c.if-cost-rest.true c.take-p.ensures.0 _ _ c.step-news.ensures.0

pub enter_each-top-requires : goal.enter_each-top-requires
enter_each-top-requires c =
    enter_asks c.args.resources c.loop-top.invariant c.loop-top-test.true
    c.if-cost-rest.true c.take-p.ensures.0 _ _ c.step-news.ensures.0 c.take-p.ensures.1

pub loop-top-preserved : goal.loop-top-preserved
loop-top-preserved c =
    stepped c.args.resources c.loop-top.invariant c.loop-top-test.true
    c.if-cost-rest.true c.take-p.ensures.0 _ _ c.step-news.ensures.0 c.take-p.ensures.1
    c.step-news.auto.row_kinds c.step-news.auto.row_values (c.enter_each-top.auto.work_list ∙ c.take-p.auto.work_list) c.enter_each-top.ensures.entered

-- behind the loop: entries are left where a charge is refused

pub returns-then-top-gt0 : goal.returns-then-top-gt0
returns-then-top-gt0 c =
    let loop = c.loop-top in
    let low : loop.rest < length c.args.analysis.now.slots.now =
    elim c.loop-top-test.branch [
      | then-loop-top-test+else-cost-rest w ↦ omega (arith, w.if-cost-rest.false)
      | else-loop-top-test w ↦ absurd (omega (arith, w.loop-top-test.false, c.if-top-gt0.true))
    ] in
    turn_refused c.args.resources loop.invariant c.if-top-gt0.true low _ _
    (all_zero _ _ _ (turn_lengths loop.invariant c.requires) (loop.invariant.list_length ∙ c.enter-top.auto.work_list)
    c.clear_rows.ensures c.clear_row.ensures c.clear.ensures) _ c.refused.ensures

pub returns-else-top-gt0 : goal.returns-else-top-gt0
returns-else-top-gt0 c =
    let loop = c.loop-top in
    turn_ends c.args.resources loop.invariant c.if-top-gt0.false _ (turn_lengths loop.invariant c.requires)
    (loop.invariant.list_length ∙ c.enter-top.auto.work_list) _ _ c.clear_row.ensures _ c.ended.ensures
