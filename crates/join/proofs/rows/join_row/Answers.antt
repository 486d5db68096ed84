-- `join::rows::join_row` meets its contract. The loop's invariant: the first i places are joined, and the others are as they were.
-- Assumes nothing.
use mathlib.Core.Path.{sym, ◌∙◌}
use Rattle.join.proofs.JoinLoop.{carried, partly_start, partly_changed, partly_kept, partly_equal, partly_end}
use Rattle.join.proofs.ContainerEquality.{equals_itself}
use Rattle.join.proofs.rows.join_row.Goals as goal
use Rattle.join.proofs.rows.join_row.Goals.{then-kind-was, else-kind-was}

pub loop-i-init : goal.loop-i-init
loop-i-init c = partly_start c.requires.row_lies c.requires.new_kinds_len.0 c.requires.new_kinds_len.1

pub loop-i-preserved-then-eq : goal.loop-i-preserved-then-eq
loop-i-preserved-then-eq c =
    partly_equal c.loop-i.invariant (rw c.loop-i.invariant.kinds_long c.loop-i-test.true) (equals_itself c.args.which c.args.classes.now) (sym c.eq.ensures ∙ c.if-eq.true)

pub loop-i-preserved : goal.loop-i-preserved
loop-i-preserved c =
    let joined = c.merge_fact_of-joined in
    elim c.if-kind-was.branch [
      | then-kind-was w ↦
          carried w.kinds-is w.values-is w.changed-is (partly_changed c.loop-i.invariant (rw c.loop-i.invariant.kinds_long c.loop-i-test.true) joined.result joined.ensures w.if-kind-was.true)
      | else-kind-was w ↦
          carried w.kinds-is w.values-is w.changed-is (partly_kept c.loop-i.invariant (rw c.loop-i.invariant.kinds_long c.loop-i-test.true) joined.result joined.ensures w.if-kind-was.false)
    ]

pub returns : goal.returns
returns c = partly_end c.loop-i.invariant (rw c.loop-i.invariant.kinds_long c.loop-i-test.false)
