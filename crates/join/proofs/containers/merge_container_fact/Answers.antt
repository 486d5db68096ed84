-- `join::containers::merge_container_fact` meets its contract: the answer is handed what the rule says of the two cells.
-- Assumes nothing.
use mathlib.Core.Path.{◌∙◌}
use Rattle.sheet_layouts.specs.Classes.{equal_containers_by}
use Rattle.join.proofs.CellJoins.{merged_by, containers_shift}
use Rattle.join.proofs.containers.merge_container_fact.Goals as goal

pub returns : goal.returns
returns c =
    let classes = c.args.classes.now in
    c.merge_fact.ensures ∙ merged_by (equal_containers_by classes) (containers_shift classes) _ _ _ c.equal_containers.ensures
