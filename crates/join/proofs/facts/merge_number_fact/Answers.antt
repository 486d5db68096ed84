-- `join::facts::merge_number_fact` meets its contract: the answer is handed what the rule says of the two cells.
-- Assumes nothing.
use mathlib.Core.Path.{◌∙◌}
use Rattle.model.specs.Fact.{equal_numbers}
use Rattle.join.proofs.CellJoins.{merged_by, numbers_shift}
use Rattle.join.proofs.facts.merge_number_fact.Goals as goal

pub returns : goal.returns
unfolding equal_numbers
returns c = c.merge_fact.ensures ∙ merged_by equal_numbers numbers_shift _ _ _ c.eq.ensures
