-- `join::rows::join_row` meets its contract. The loop's invariant: the first i places are joined, and the others are as they were.
-- Assumes nothing.
use Rattle.sheet_layouts.specs.Classes.{equal_by}
use Rattle.join.proofs.JoinLoop.{Partly}
use Rattle.join.proofs.rows.join_row.Given as goal

abbrev pub invariant-loop-i : goal.invariant-loop-i
invariant-loop-i l =
    Partly (equal_by l.which l.classes) l.initial.kinds l.initial.values l.new_kinds l.new_values l.kinds l.values l.changed l.i
