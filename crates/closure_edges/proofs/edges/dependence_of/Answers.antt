-- `closure_edges::edges::dependence_of` meets its contract: where an opcode is told its rule computes; of any other each test fails.
-- Assumes nothing.
use mathlib.Core.Logic.{inl, inr}
use borrow.Author.Tests.{ne_eqb}
use Rattle.model.specs.Opcode.{select}
use Rattle.model.specs.Dependencies.{depends, dependency_bit}
use Rattle.closure_edges.specs.Rows.{dependence_by}
use Rattle.closure_edges.proofs.EdgeRows.{folds}
use Rattle.closure_edges.proofs.edges.dependence_of.Goals as goal

pub returns-in-3 : goal.returns-in-3
unfolding depends select dependence_by
returns-in-3 c = rw c.in-3.is

pub returns-in-4 : goal.returns-in-4
unfolding depends select dependence_by
returns-in-4 c = rw c.in-4.is

pub returns-in-53 : goal.returns-in-53
returns-in-53 c = folds _ c.in-53.is

pub returns-in-94 : goal.returns-in-94
unfolding depends select dependence_by dependency_bit
returns-in-94 c = rw c.in-94.is

pub returns-in_default : goal.returns-in_default
unfolding depends select dependence_by
returns-in_default c =
    let missed = c.in_default.in_default-own.rest in
    rw (ne_eqb _ 3 missed.0.0.0.1, ne_eqb _ 4 missed.0.0.1, ne_eqb _ 53 (λ e. missed.0.1 (inr e)), ne_eqb _ 49 (λ e. missed.0.1 (inl e)), ne_eqb _ 94 missed.1)
