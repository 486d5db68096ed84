-- `join::containers::equal_containers` meets its contract: a law for each way out.
-- Assumes nothing.
use mathlib.Core.Path.{sym, ◌∙◌}
use borrow.Author.Tests.{eqb-true, eqb-false}
use Rattle.join.proofs.ContainerEquality.{other_kinds, same_cells, other_first, by_second}
use Rattle.join.proofs.containers.equal_containers.Goals as goal
use Rattle.join.proofs.containers.equal_containers.Goals.{then-old-new, else-old-new}

pub returns-then-eq : goal.returns-then-eq
returns-then-eq c = c.if-eq.true ∙ same_cells _ _ _ _ _ (sym c.if-eq.ensures)

pub returns-then-class_of : goal.returns-then-class_of
returns-then-class_of c =
    elim c.if-old-new.branch [
      | then-old-new w ↦
          by_second _ _ _ _ _ w.if-old-new.true w.class_of.ensures w.class_of-then-old-new.ensures (eqb-true _ _ (sym w.value-is ∙ c.if-class_of.true))
          c.class_of-then-class_of.ensures c.class_of-then-class_of-2.ensures
      | else-old-new w ↦ absurd (w.if-old-new.false (eqb-true _ _ (sym w.value-is ∙ c.if-class_of.true)))
    ]

pub returns-else-class_of : goal.returns-else-class_of
returns-else-class_of c =
    elim c.if-old-new.branch [
      | then-old-new w ↦
          c.if-class_of.false
          ∙ other_first _ _ _ _ _ w.if-old-new.true w.class_of.ensures w.class_of-then-old-new.ensures (eqb-false _ _ (sym w.value-is ∙ c.if-class_of.false))
      | else-old-new w ↦ c.if-class_of.false ∙ other_kinds _ _ _ _ _ w.if-old-new.false
    ]
