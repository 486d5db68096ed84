-- `export_numbers::numbered` meets its contract. Assumes nothing.
use mathlib.Core.Path.{refl}
use Rattle.export_numbers.specs.Numbers.{numbers_compute}
use Rattle.export_numbers.proofs.answers.numbered.Goals as goal

pub returns-in-Analyzed : goal.returns-in-Analyzed
unfolding numbers_compute
returns-in-Analyzed c = rw c.in-Analyzed.is (refl, c.entries.ensures)

pub returns-in-Invalid : goal.returns-in-Invalid
unfolding numbers_compute
returns-in-Invalid c = rw (c.in-Invalid.is, ← c.number.ensures) c.refusal.ensures

pub returns-in-OverBudget : goal.returns-in-OverBudget
unfolding numbers_compute
returns-in-OverBudget c = rw c.in-OverBudget.is c.refusal-in-OverBudget.ensures

pub returns-in-NoRoom : goal.returns-in-NoRoom
unfolding numbers_compute
returns-in-NoRoom c = rw c.in-NoRoom.is c.refusal-in-NoRoom.ensures
